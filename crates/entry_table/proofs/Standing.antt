-- An index of the places of numbers, after one of them came to a place or went from it.
use Rattle.std.proofs.Common.{◌≡◌, ℕ, List, Option, Some, None, refl, sym, ap, ◌∙◌, inl, inr, ◌⊎◌}
use Rattle.directory_index.proofs.Standings.{inserted-here, inserted-still, inserted-was, moved, removed-still, removed-was, same-number}
use Rattle.directory_index.specs.CountedIndex.{IsCountedOf}
use Rattle.directory_index.specs.Standing.{inserted, removed, Standing, StandsNowhere}
use Rattle.directory_index.specs.declared.counted_index.CountedIndex.{CountedIndex}
use Rattle.eden_base.proofs.MemberLemmas.{some-none}
use Rattle.eden_base.proofs.NumberTests.{eq-or}
use Rattle.entry_table.specs.Standing.{IsIndexed}

-- a place, as one is found
abbrev pub under : ℕ → List ℕ → Option (ℕ × List ℕ)
under dir name = Some (dir, name)

-- two places that one number has are one
pub same-place : (o : Option (ℕ × List ℕ)) (d dir : ℕ) (q name : List ℕ) → o ≡ under d q → o ≡ under dir name → (d ≡ dir) × (q ≡ name)
same-place o d dir q name e f =
    let same : under d q ≡ under dir name = sym e ∙ f in
    let pair : ◌≡◌ {A = ℕ × List ℕ} (d, q) (dir, name) = cc in
    (ap (λ (p : ℕ × List ℕ). p.0) pair, ap (λ (p : ℕ × List ℕ). p.1) pair)

-- where each number stands as it stood
pub indexed-same : (place after : ℕ → Option (ℕ × List ℕ)) (index : CountedIndex) → ((n : ℕ) → after n ≡ place n) → IsIndexed place index → IsIndexed after index
indexed-same place after index same is = record {
  at = is.at;
  of = is.of;
  known = λ d q n e. same n ∙ is.known d q n e;
  each = λ d q n e. is.each d q n (sym (same n) ∙ e);
}

-- another index of the same
pub indexed-kept : (place : ℕ → Option (ℕ × List ℕ)) (old new : CountedIndex) → (is : IsIndexed place old) → IsCountedOf is.at new → IsIndexed place new
indexed-kept place old new is kept = record { at = is.at; of = kept; known = is.known; each = is.each }

-- nothing stands at a place at which no number stands
pub indexed-free : (place : ℕ → Option (ℕ × List ℕ)) (index : CountedIndex) (is : IsIndexed place index) (dir : ℕ) (name : List ℕ) → ((n : ℕ) → place n ≡ Some (dir, name) → ⊥) → is.at dir name ≡ None
indexed-free place index is dir name free = in_ (is.at dir name) refl where
  in_ : (o : Option ℕ) → is.at dir name ≡ o → is.at dir name ≡ None
  in_ None e = e
  in_ (Some n) e = absurd (free n (is.known dir name n e))

-- where each number but one stands as it stood
module _ (place after : ℕ → Option (ℕ × List ℕ)) (n : ℕ) (others : (m : ℕ) → (m ≡ n → ⊥) → after m ≡ place m) (old new : CountedIndex) (dir : ℕ) (name : List ℕ) where
  -- the one came to a free place
  pub indexed-gained : place n ≡ None → after n ≡ Some (dir, name) → ((m : ℕ) → place m ≡ Some (dir, name) → ⊥) → IsIndexed place old →
      ((at : Standing) → IsCountedOf at old → at dir name ≡ None → StandsNowhere at n → IsCountedOf (inserted at dir name n) new) → IsIndexed after new
  indexed-gained none there free is put = record {
    at = inserted is.at dir name n;
    of = put is.at is.of empty (λ d q e. some-none (place n) (d, q) (is.known d q n e) none);
    known = λ d q m e. known_in d q m (inserted-was is.at dir name n d q m e);
    each = λ d q m e. each_in d q m e (eq-or m n);
  } where
    empty : is.at dir name ≡ None
    empty = indexed-free place old is dir name free

    known_in : (d : ℕ) (q : List ℕ) (m : ℕ) → ((m ≡ n) × ((d ≡ dir) × (q ≡ name))) ⊎ (is.at d q ≡ Some m) → after m ≡ Some (d, q)
    known_in d q m (inl p) = ap after p.0 ∙ there ∙ (λ i. under (sym p.1.0 i) (sym p.1.1 i))
    known_in d q m (inr e) =
        let stood = is.known d q m e in
        others m (λ same. some-none (place n) (d, q) (ap place (sym same) ∙ stood) none) ∙ stood

    each_in : (d : ℕ) (q : List ℕ) (m : ℕ) → after m ≡ Some (d, q) → (m ≡ n) ⊎ (m ≡ n → ⊥) → inserted is.at dir name n d q ≡ Some m
    each_in d q m e (inl same) =
        let p = same-place (after n) d dir q name (ap after (sym same) ∙ e) there in
        moved (inserted is.at dir name n) d dir q name p.0 p.1 ∙ inserted-here is.at dir name n ∙ ap Some (sym same)
    each_in d q m e (inr other) = inserted-still is.at dir name n empty d q m (is.each d q m (sym (others m other) ∙ e))

  -- the one went from its place
  pub indexed-lost : place n ≡ Some (dir, name) → after n ≡ None → IsIndexed place old →
      ((at : Standing) → IsCountedOf at old → at dir name ≡ Some n → IsCountedOf (removed at dir name) new) → IsIndexed after new
  indexed-lost here none is take = record {
    at = removed is.at dir name;
    of = take is.at is.of stood;
    known = λ d q m e. known_in d q m (removed-was is.at dir name n d q m e);
    each = λ d q m e. each_in d q m e (λ same. some-none (after n) (d, q) (ap after (sym same) ∙ e) none);
  } where
    stood : is.at dir name ≡ Some n
    stood = is.each dir name n here

    known_in : (d : ℕ) (q : List ℕ) (m : ℕ) → (is.at d q ≡ Some m) × ((d ≡ dir) → (q ≡ name) → ⊥) → after m ≡ Some (d, q)
    known_in d q m w =
        let was = is.known d q m w.0 in
        others m (λ same. let p = same-place (place n) d dir q name (ap place (sym same) ∙ was) here in w.1 p.0 p.1) ∙ was

    each_in : (d : ℕ) (q : List ℕ) (m : ℕ) → after m ≡ Some (d, q) → (m ≡ n → ⊥) → removed is.at dir name d q ≡ Some m
    each_in d q m e other =
        let was = is.each d q m (sym (others m other) ∙ e) in
        removed-still is.at dir name n d q m (λ x y. other (same-number m n (sym was ∙ moved is.at d dir q name x y ∙ stood))) was
