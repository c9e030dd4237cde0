-- Sums over lists that are read as bags, and the first member that passes a test.
use Rattle.std.proofs.Common.{◌≡◌, ℕ, suc, zero, ◌+◌, ◌<◌, ◌≤◌, Bool, true, false, List, [], ◌∷◌, ◌++◌, Some, refl, sym, ap, ◌∙◌, arith}
use Rattle.std.specs.Prelude.{sum_by, count_by, cond, slice_get, remove, if◌then◌else◌}
use Rattle.std.proofs.lemmas.List.Sums.{sum_by-cons, sum_by_push}
use Rattle.eden_base.specs.First.{first_where, without_where}
use Rattle.world.specs.Agreement.{IsSameBag}

-- 1 for a member that passes a test, and else 0
abbrev pub mark : Bool → ℕ
mark b = cond b 1 0

pub count-cons : {X : Type 0} (p : X → Bool) (x : X) (xs : List X) → count_by p (x ∷ xs) ≡ mark (p x) + count_by p xs
count-cons p x xs = sum_by-cons (λ y. cond (p y) 1 0) x xs

-- if the count of members that pass is above 0, there is a first that passes
pub counted-first : {X : Type 0} (p : X → Bool) (xs : List X) → 0 < count_by p xs → (x : X) × (first_where p xs ≡ Some x)
counted-first p [] h = absurd (let none : 0 < 0 = h in omega (arith, none))
counted-first {X = X} p (x ∷ xs) h = in_ (p x) refl (λ some. counted-first p xs some) where
  in_ : (b : Bool) → p x ≡ b → (0 < count_by p xs → (y : X) × (first_where p xs ≡ Some y)) → (y : X) × ((if b then Some x else first_where p xs) ≡ Some y)
  in_ true e more = (x, refl)
  in_ false e more = more (let c : count_by p (x ∷ xs) ≡ mark (p x) + count_by p xs = count-cons p x xs in let m : mark (p x) ≡ 0 = ap mark e in omega (arith, h))

pub first-passes : {X : Type 0} (p : X → Bool) (xs : List X) (x : X) → first_where p xs ≡ Some x → p x ≡ true
first-passes p [] x e = absurd (let none : ⊥ = cc in none)
first-passes p (y ∷ ys) x e = in_ (p y) refl e (λ e'. first-passes p ys x e') where
  in_ : (b : Bool) → p y ≡ b → (if b then Some y else first_where p ys) ≡ Some x → (first_where p ys ≡ Some x → p x ≡ true) → p x ≡ true
  in_ true t e' more = let same : y ≡ x = cc in ap p (sym same) ∙ t
  in_ false t e' more = more e'

-- a sum over a list is the measure of the first member that passes, and the sum over the others
pub sum-without : {X : Type 0} (f : X → ℕ) (p : X → Bool) (xs : List X) (x : X) → first_where p xs ≡ Some x → sum_by f xs ≡ f x + sum_by f (without_where p xs)
sum-without f p [] x e = absurd (let none : ⊥ = cc in none)
sum-without f p (y ∷ ys) x e = in_ (p y) refl e (λ e'. sum-without f p ys x e') where
  in_ : (b : Bool) → p y ≡ b → (if b then Some y else first_where p ys) ≡ Some x → (first_where p ys ≡ Some x → sum_by f ys ≡ f x + sum_by f (without_where p ys)) →
      sum_by f (y ∷ ys) ≡ f x + sum_by f (if b then ys else y ∷ without_where p ys)
  in_ true t e' more = let same : y ≡ x = cc in sum_by-cons f y ys ∙ ap (λ z. f z + sum_by f ys) same
  in_ false t e' more =
      let h : sum_by f ys ≡ f x + sum_by f (without_where p ys) = more e' in
      let c : sum_by f (y ∷ ys) ≡ f y + sum_by f ys = sum_by-cons f y ys in
      let d : sum_by f (y ∷ without_where p ys) ≡ f y + sum_by f (without_where p ys) = sum_by-cons f y (without_where p ys) in
      omega arith

-- the measure that is 0 for members that do not pass
abbrev pub part : {X : Type 0} → (X → Bool) → (X → ℕ) → X → ℕ
part p f x = if p x then f x else 0

sum-none : {X : Type 0} (f : X → ℕ) (p : X → Bool) (xs : List X) → count_by p xs ≡ 0 → sum_by (part p f) xs ≡ 0
sum-none f p [] h = refl
sum-none f p (x ∷ xs) h = in_ (p x) refl (λ h'. sum-none f p xs h') where
  in_ : (b : Bool) → p x ≡ b → (count_by p xs ≡ 0 → sum_by (part p f) xs ≡ 0) → sum_by (part p f) (x ∷ xs) ≡ 0
  in_ true e more = absurd (let c : count_by p (x ∷ xs) ≡ mark (p x) + count_by p xs = count-cons p x xs in let m : mark (p x) ≡ 1 = ap mark e in omega (arith, h))
  in_ false e more =
      let c : count_by p (x ∷ xs) ≡ mark (p x) + count_by p xs = count-cons p x xs in
      let m : mark (p x) ≡ 0 = ap mark e in
      let d : sum_by (part p f) (x ∷ xs) ≡ part p f x + sum_by (part p f) xs = sum_by-cons (part p f) x xs in
      let z : part p f x ≡ 0 = rw e refl in
      let r : sum_by (part p f) xs ≡ 0 = more (omega (arith, h)) in
      omega arith

-- if one member passes, the sum over the members that pass is its own measure
sum-only : {X : Type 0} (f : X → ℕ) (p : X → Bool) (xs : List X) (x : X) → first_where p xs ≡ Some x → count_by p xs ≤ 1 → sum_by (part p f) xs ≡ f x
sum-only f p xs x e few =
    let t : p x ≡ true = first-passes p xs x e in
    let one : mark (p x) ≡ 1 = ap mark t in
    let c : count_by p xs ≡ mark (p x) + count_by p (without_where p xs) = sum-without (λ y. cond (p y) 1 0) p xs x e in
    let s : sum_by (part p f) xs ≡ part p f x + sum_by (part p f) (without_where p xs) = sum-without (part p f) p xs x e in
    let z : sum_by (part p f) (without_where p xs) ≡ 0 = sum-none f p (without_where p xs) (omega (arith, few)) in
    let h : part p f x ≡ f x = rw t refl in
    omega arith

-- if each of two equal bags has one member that passes, both members have the same measure
pub same-measure : {X : Type 0} (p : X → Bool) (xs ys : List X) (x y : X) → IsSameBag xs ys → first_where p xs ≡ Some x → first_where p ys ≡ Some y → count_by p xs ≤ 1 → (f : X → ℕ) → f x ≡ f y
same-measure p xs ys x y same a b few f =
    let c : count_by p xs ≡ count_by p ys = same (λ z. cond (p z) 1 0) in
    let s : sum_by (part p f) xs ≡ sum_by (part p f) ys = same (part p f) in
    let h : sum_by (part p f) xs ≡ f x = sum-only f p xs x a few in
    let g : sum_by (part p f) ys ≡ f y = sum-only f p ys y b (omega (arith, few)) in
    omega arith

-- a sum over a list is the measure of the member at an index, and the sum over the others
pub sum-at : {X : Type 0} (f : X → ℕ) (xs : List X) (i : ℕ) (x : X) → slice_get xs i ≡ Some x → sum_by f xs ≡ f x + sum_by f (remove xs i)
sum-at f [] i x e = absurd (let none : ⊥ = cc in none)
sum-at f (y ∷ ys) zero x e = let same : y ≡ x = cc in sum_by-cons f y ys ∙ ap (λ z. f z + sum_by f ys) same
sum-at f (y ∷ ys) (suc i) x e =
    let h : sum_by f ys ≡ f x + sum_by f (remove ys i) = sum-at f ys i x e in
    let c : sum_by f (y ∷ ys) ≡ f y + sum_by f ys = sum_by-cons f y ys in
    let d : sum_by f (y ∷ remove ys i) ≡ f y + sum_by f (remove ys i) = sum_by-cons f y (remove ys i) in
    omega arith

pub count-push : {X : Type 0} (p : X → Bool) (xs : List X) (x : X) → count_by p (xs ++ x ∷ []) ≡ count_by p xs + mark (p x)
count-push p xs x = sum_by_push (λ y. cond (p y) 1 0) xs x

-- the first member that passes in one list is also the first in a longer list, and is taken out there too
pub first-append : {X : Type 0} (p : X → Bool) (xs ys : List X) (x : X) → first_where p xs ≡ Some x → (first_where p (xs ++ ys) ≡ Some x) × (without_where p (xs ++ ys) ≡ without_where p xs ++ ys)
first-append p [] ys x e = absurd (let none : ⊥ = cc in none)
first-append p (y ∷ xs) ys x e = in_ (p y) refl e (λ e'. first-append p xs ys x e') where
  in_ : (b : Bool) → p y ≡ b → (if b then Some y else first_where p xs) ≡ Some x → (first_where p xs ≡ Some x → (first_where p (xs ++ ys) ≡ Some x) × (without_where p (xs ++ ys) ≡ without_where p xs ++ ys)) →
      ((if b then Some y else first_where p (xs ++ ys)) ≡ Some x) × ((if b then xs ++ ys else y ∷ without_where p (xs ++ ys)) ≡ (if b then xs else y ∷ without_where p xs) ++ ys)
  in_ true t e' more = (e', refl)
  in_ false t e' more = let r = more e' in (r.0, ap (λ zs. y ∷ zs) r.1)
