-- What stands, after a number came to a place or went from it.
use Rattle.std.proofs.Common.{◌≡◌, ℕ, Bool, true, false, List, Option, Some, None, refl, sym, ap, ◌∙◌, inl, inr, ◌⊎◌}
use Rattle.std.proofs.lemmas.Bool.{and_parts}
use Rattle.std.specs.Prelude.{◌==◌, nat_eq}
use Rattle.std.specs.Cmp.Lexicographic.{pointwise, same_text}
use Rattle.eden_base.proofs.NumberTests.{eq-true, true-eq}
use Rattle.directory_index.proofs.Written.{names-alike}
use Rattle.directory_index.specs.Standing.{inserted, is_at, is_place, removed, AreApart, AreKnown, Standing, StandsNowhere}

-- two numbers that one option is
pub same-number : (m n : ℕ) → Some m ≡ Some n → m ≡ n
same-number m n e = cc

-- a place is itself
pub here : (d dir : ℕ) (q name : List ℕ) → d ≡ dir → q ≡ name → is_place d q dir name ≡ true
here d dir q name e f =
    let same : (d == dir) ≡ true = eq-true d dir e in
    rw same (ap (λ (n : List ℕ). pointwise nat_eq n name) f ∙ names-alike name)

-- two places are one
pub same-place : (d dir : ℕ) (q name : List ℕ) → is_place d q dir name ≡ true → (d ≡ dir) × (q ≡ name)
same-place d dir q name t =
    let both = and_parts (d == dir) (pointwise nat_eq q name) t in
    (true-eq d dir both.0, same_text q name (sym both.1))

-- two places are one or not
pub place-or : (d : ℕ) (q : List ℕ) (dir : ℕ) (name : List ℕ) →
    ((is_place d q dir name ≡ true) × ((d ≡ dir) × (q ≡ name))) ⊎ ((is_place d q dir name ≡ false) × ((d ≡ dir) → (q ≡ name) → ⊥))
place-or d q dir name = in_ (is_place d q dir name) refl where
  in_ : (b : Bool) → is_place d q dir name ≡ b →
      ((is_place d q dir name ≡ true) × ((d ≡ dir) × (q ≡ name))) ⊎ ((is_place d q dir name ≡ false) × ((d ≡ dir) → (q ≡ name) → ⊥))
  in_ true t = inl (t, same-place d dir q name t)
  in_ false f = inr (f, λ e g. let t = here d dir q name e g in let no : ⊥ = cc in no)

-- what stands at a place that is spelled otherwise
pub moved : (at : Standing) (d dir : ℕ) (q name : List ℕ) → d ≡ dir → q ≡ name → at d q ≡ at dir name
moved at d dir q name e f = ap (λ (x : ℕ). at x q) e ∙ ap (at dir) f

module _ (at : Standing) (dir : ℕ) (name : List ℕ) (number : ℕ) where
  -- the number stands where it was inserted
  pub inserted-here : inserted at dir name number dir name ≡ Some number
  inserted-here = let t = here dir dir name name refl refl in rw t refl

  -- nothing stands where it was removed
  pub removed-here : removed at dir name dir name ≡ None
  removed-here = let t = here dir dir name name refl refl in rw t refl

  -- what stood stands beside it
  pub inserted-still : at dir name ≡ None → (d : ℕ) (q : List ℕ) (n : ℕ) → at d q ≡ Some n → inserted at dir name number d q ≡ Some n
  inserted-still free d q n e = in_ (place-or d q dir name) where
    in_ : ((is_place d q dir name ≡ true) × ((d ≡ dir) × (q ≡ name))) ⊎ ((is_place d q dir name ≡ false) × ((d ≡ dir) → (q ≡ name) → ⊥)) → inserted at dir name number d q ≡ Some n
    in_ (inl p) = let none : at d q ≡ None = moved at d dir q name p.1.0 p.1.1 ∙ free in absurd (let no : ⊥ = cc in no)
    in_ (inr p) = rw p.0 e

  -- what stands was inserted, or stood
  pub inserted-was : (d : ℕ) (q : List ℕ) (n : ℕ) → inserted at dir name number d q ≡ Some n →
      ((n ≡ number) × ((d ≡ dir) × (q ≡ name))) ⊎ (at d q ≡ Some n)
  inserted-was d q n e = in_ (place-or d q dir name) where
    in_ : ((is_place d q dir name ≡ true) × ((d ≡ dir) × (q ≡ name))) ⊎ ((is_place d q dir name ≡ false) × ((d ≡ dir) → (q ≡ name) → ⊥)) → ((n ≡ number) × ((d ≡ dir) × (q ≡ name))) ⊎ (at d q ≡ Some n)
    in_ (inl p) = let is : inserted at dir name number d q ≡ Some number = rw p.0 refl in inl (same-number n number (sym e ∙ is), p.1)
    in_ (inr p) = let is : inserted at dir name number d q ≡ at d q = rw p.0 refl in inr (sym is ∙ e)

  -- what is left stood, and elsewhere
  pub removed-was : (d : ℕ) (q : List ℕ) (n : ℕ) → removed at dir name d q ≡ Some n → (at d q ≡ Some n) × ((d ≡ dir) → (q ≡ name) → ⊥)
  removed-was d q n e = in_ (place-or d q dir name) where
    in_ : ((is_place d q dir name ≡ true) × ((d ≡ dir) × (q ≡ name))) ⊎ ((is_place d q dir name ≡ false) × ((d ≡ dir) → (q ≡ name) → ⊥)) → (at d q ≡ Some n) × ((d ≡ dir) → (q ≡ name) → ⊥)
    in_ (inl p) = let none : removed at dir name d q ≡ None = rw p.0 refl in absurd (let no : ⊥ = cc in no)
    in_ (inr p) = let is : removed at dir name d q ≡ at d q = rw p.0 refl in (sym is ∙ e, p.1)

  -- what stood elsewhere is left
  pub removed-still : (d : ℕ) (q : List ℕ) (n : ℕ) → ((d ≡ dir) → (q ≡ name) → ⊥) → at d q ≡ Some n → removed at dir name d q ≡ Some n
  removed-still d q n apart e = in_ (place-or d q dir name) where
    in_ : ((is_place d q dir name ≡ true) × ((d ≡ dir) × (q ≡ name))) ⊎ ((is_place d q dir name ≡ false) × ((d ≡ dir) → (q ≡ name) → ⊥)) → removed at dir name d q ≡ Some n
    in_ (inl p) = absurd (apart p.1.0 p.1.1)
    in_ (inr p) = rw p.0 e

  -- numbers stay apart where a new one comes
  pub inserted-apart : StandsNowhere at number → AreApart at → AreApart (inserted at dir name number)
  inserted-apart fresh apart d e q p n a b = in_ (inserted-was d q n a) (inserted-was e p n b) where
    in_ : ((n ≡ number) × ((d ≡ dir) × (q ≡ name))) ⊎ (at d q ≡ Some n) → ((n ≡ number) × ((e ≡ dir) × (p ≡ name))) ⊎ (at e p ≡ Some n) → (d ≡ e) × (q ≡ p)
    in_ (inl x) (inl y) = (x.1.0 ∙ sym y.1.0, x.1.1 ∙ sym y.1.1)
    in_ (inl x) (inr y) = absurd (fresh e p (y ∙ ap Some x.0))
    in_ (inr x) (inl y) = absurd (fresh d q (x ∙ ap Some y.0))
    in_ (inr x) (inr y) = apart d e q p n x y

  -- and where one goes
  pub removed-apart : AreApart at → AreApart (removed at dir name)
  removed-apart apart d e q p n a b = apart d e q p n (removed-was d q n a).0 (removed-was e p n b).0

-- a number that is known to stand at a place, and does stand somewhere, stands there
pub known-here : (at : Standing) (place : ℕ → Option (ℕ × List ℕ)) → AreKnown at place → (d : ℕ) (q : List ℕ) (n : ℕ) → at d q ≡ Some n →
    (dir : ℕ) (name : List ℕ) → is_at (place n) dir name ≡ true → at dir name ≡ Some n
known-here at place known d q n e dir name t =
    let same = same-place d dir q name (sym (ap (λ (p : Option (ℕ × List ℕ)). is_at p dir name) (known d q n e)) ∙ t) in
    sym (moved at d dir q name same.0 same.1) ∙ e

-- and it is known where it stands
pub known-at : (at : Standing) (place : ℕ → Option (ℕ × List ℕ)) → AreKnown at place → (dir : ℕ) (name : List ℕ) (n : ℕ) → at dir name ≡ Some n → is_at (place n) dir name ≡ true
known-at at place known dir name n e =
    ap (λ (p : Option (ℕ × List ℕ)). is_at p dir name) (known dir name n e) ∙ here dir dir name name refl refl
