-- A list of indexes from which one is struck.
use Rattle.std.proofs.Common.{◌≡◌, ℕ, suc, true, false, eqb, List, [], ◌∷◌, length, inl, inr, refl, sym, ap, subst}
use Rattle.std.proofs.lemmas.Bool.{cases_Bool, eqb-true, both_ways}
use Rattle.node_arena.specs.Links.{has, IsApart, strike}
use Rattle.node_arena.proofs.Chains.{has_not, has_not_from, has_first, has_later, has_in_rest}

-- what was not there is not there afterwards
pub has-strike_none : (k x : ℕ) (xs : List ℕ) → has k xs ≡ false → has k (strike x xs) ≡ false
has-strike_none k x [] h = refl
has-strike_none k x (y ∷ ys) h = elim (cases_Bool (eqb x y)) [
  | inl e ↦ rw e (has_not k y ys h).1
  | inr e ↦ rw e (has_not_from k y (strike x ys) (has_not k y ys h).0 (has-strike_none k x ys (has_not k y ys h).1))
]

-- what is there was there before
pub has-strike : (k x : ℕ) (xs : List ℕ) → has k (strike x xs) ≡ true → has k xs ≡ true
has-strike k x xs h = elim (cases_Bool (has k xs)) [
  | inl e ↦ e
  | inr e ↦ absurd (both_ways (has k (strike x xs)) (has-strike_none k x xs e) h)
]

-- the struck index is not there
pub has-strike_same : (x : ℕ) (xs : List ℕ) → IsApart xs → has x (strike x xs) ≡ false
has-strike_same x [] h = refl
has-strike_same x (y ∷ ys) h = elim (cases_Bool (eqb x y)) [
  | inl e ↦ rw e (subst (λ (k : ℕ). has k ys ≡ false) (sym (eqb-true x y e)) h.0)
  | inr e ↦ rw e (has_not_from x y (strike x ys) e (has-strike_same x ys h.1))
]

-- the others stay
pub has-strike_other : (k x : ℕ) (xs : List ℕ) → eqb k x ≡ false → has k xs ≡ true → has k (strike x xs) ≡ true
has-strike_other k x [] ne h = h
has-strike_other k x (y ∷ ys) ne h = elim (cases_Bool (eqb x y)) [
  | inl e ↦ let apart : eqb k y ≡ false = subst (λ (m : ℕ). eqb k m ≡ false) (eqb-true x y e) ne in rw e (has_in_rest k y ys apart h)
  | inr e ↦ elim (cases_Bool (eqb k y)) [
    | inl same ↦ rw e (has_first k y (strike x ys) (eqb-true k y same))
    | inr other ↦ rw e (has_later k y (strike x ys) (has-strike_other k x ys ne (has_in_rest k y ys other h)))
  ]
]

pub IsApart-strike : (x : ℕ) (xs : List ℕ) → IsApart xs → IsApart (strike x xs)
IsApart-strike x [] h = tt
IsApart-strike x (y ∷ ys) h = elim (cases_Bool (eqb x y)) [
  | inl e ↦ rw e h.1
  | inr e ↦ rw e (has-strike_none y x ys h.0, IsApart-strike x ys h.1)
]

pub length-strike : (x : ℕ) (xs : List ℕ) → has x xs ≡ true → suc (length (strike x xs)) ≡ length xs
length-strike x [] h = cc
length-strike x (y ∷ ys) h = elim (cases_Bool (eqb x y)) [
  | inl e ↦ rw e refl
  | inr e ↦ let on = length-strike x ys (has_in_rest x y ys e h) in rw e (ap suc on)
]
