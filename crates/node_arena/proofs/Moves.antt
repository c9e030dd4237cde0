-- What a touch, a removal and an addition leave of the two lists.
use Rattle.std.proofs.Common.{◌≡◌, ℕ, ◌+◌, ◌-◌, ◌≤◌, suc, true, false, eqb, List, [], ◌∷◌, length, Option, Some, None, inl, inr, refl, sym, ap, ◌∙◌, subst, arith}
use Rattle.std.proofs.lemmas.Bool.{cases_Bool, eqb-true}
use Rattle.node_arena.specs.Links.{updated, has, strike, IsChain, next_without, prev_without, next_with, prev_with}
use Rattle.node_arena.specs.Recency.{IsKept}
use Rattle.node_arena.proofs.Chains.{updated_here, updated_apart, eqb_turned, has_first, has_later, has_in_rest, differ}
use Rattle.node_arena.proofs.Strikes.{has-strike, has-strike_same, has-strike_other, length-strike}
use Rattle.node_arena.proofs.Lists.{lists-touched, lists-removed, lists-added}

-- the last of a list that is not empty is in it
pub has-last_link : (next prev : ℕ → ℕ) (a : ℕ) (xs : List ℕ) (z : ℕ) → IsChain next prev a xs z → (length xs ≡ 0 → ⊥) → has (prev z) xs ≡ true
has-last_link next prev a [] z c h = absurd (h refl)
has-last_link next prev a (x ∷ []) z c h = has_first (prev z) x [] c.2.1
has-last_link next prev a (x ∷ y ∷ ys) z c h = has_later (prev z) x (y ∷ ys) (has-last_link next prev x (y ∷ ys) z c.2 (λ e. absurd (omega arith)))

-- an index that is in the list still is once another one is put in front
has_moved : (k x : ℕ) (xs : List ℕ) → has x xs ≡ true → has k (x ∷ strike x xs) ≡ true → has k xs ≡ true
has_moved k x xs h on = elim (cases_Bool (eqb k x)) [
  | inl e ↦ subst (λ (m : ℕ). has m xs ≡ true) (sym (eqb-true k x e)) h
  | inr e ↦ has-strike k x xs (has_in_rest k x (strike x xs) e on)
]

has_moved_back : (k x : ℕ) (xs : List ℕ) → has k xs ≡ true → has k (x ∷ strike x xs) ≡ true
has_moved_back k x xs on = elim (cases_Bool (eqb k x)) [
  | inl e ↦ has_first k x (strike x xs) (eqb-true k x e)
  | inr e ↦ has_later k x (strike x xs) (has-strike_other k x xs e on)
]

module _ {T : Type 0} (next prev : ℕ → ℕ) (f : ℕ → Option T) (head capacity len : ℕ) (order spare : List ℕ) (kept : IsKept next prev f head capacity len order spare) (x : ℕ) where
  abbrev n1 : ℕ → ℕ
  n1 = next_without next prev x

  abbrev p1 : ℕ → ℕ
  p1 = prev_without next prev x

  -- x is moved to the front
  pub kept-touched : has x order ≡ true → IsKept (next_with n1 0 x) (prev_with n1 p1 0 x) f head capacity len (x ∷ strike x order) spare
  kept-touched h = record {
    lists = lists-touched next prev order head spare kept.lists x h;
    long = length-strike x order h ∙ kept.long;
    total = ap (λ (m : ℕ). m + length spare) (length-strike x order h) ∙ kept.total;
    order_within = λ k on. kept.order_within k (has_moved k x order h on);
    spare_within = kept.spare_within;
    filled = λ k on. kept.filled k (has_moved k x order h on);
    only = λ k v e. has_moved_back k x order (kept.only k v e);
  }

  -- x and its value are taken out
  pub kept-removed : has x order ≡ true → IsKept (updated n1 x head) p1 (updated f x None) x capacity (len - 1) (strike x order) (x ∷ spare)
  kept-removed h =
      let one_less = length-strike x order h in let long = kept.long in let total = kept.total in
      record {
        lists = lists-removed next prev order head spare kept.lists x h;
        long = omega arith;
        total = omega arith;
        order_within = λ k on. kept.order_within k (has-strike k x order on);
        spare_within = λ k on. elim (cases_Bool (eqb k x)) [
          | inl e ↦ subst (λ (m : ℕ). m ≤ capacity) (sym (eqb-true k x e)) (kept.order_within x h)
          | inr e ↦ kept.spare_within k (has_in_rest k x spare e on)
        ];
        filled = λ k on.
            let other : eqb x k ≡ false = eqb_turned k x (differ k x (strike x order) on (has-strike_same x order kept.lists.apart.0)) in
            let was = kept.filled k (has-strike k x order on) in (was.0, updated_apart f x None k other ∙ was.1);
        only = λ k v e. elim (cases_Bool (eqb x k)) [
          | inl y ↦ let none : updated f x None k ≡ None = updated_here f x None k (eqb-true x k y) in cc
          | inr y ↦ has-strike_other k x order (eqb_turned x k y) (kept.only k v (sym (updated_apart f x None k y) ∙ e))
        ];
      }

  -- x has another value
  pub kept-valued : (v : T) → has x order ≡ true → IsKept next prev (updated f x (Some v)) head capacity len order spare
  kept-valued v h = record {
    lists = kept.lists;
    long = kept.long;
    total = kept.total;
    order_within = kept.order_within;
    spare_within = kept.spare_within;
    filled = λ k on. elim (cases_Bool (eqb x k)) [
      | inl y ↦ (v, updated_here f x (Some v) k (eqb-true x k y))
      | inr y ↦ let was = kept.filled k on in (was.0, updated_apart f x (Some v) k y ∙ was.1)
    ];
    only = λ k w e. elim (cases_Bool (eqb x k)) [
      | inl y ↦ subst (λ (m : ℕ). has m order ≡ true) (eqb-true x k y) h
      | inr y ↦ kept.only k w (sym (updated_apart f x (Some v) k y) ∙ e)
    ];
  }

-- the first spare node holds a value, and comes first
pub kept-added : {T : Type 0} (next prev : ℕ → ℕ) (f : ℕ → Option T) (x capacity len : ℕ) (order spare : List ℕ) → IsKept next prev f x capacity len order (x ∷ spare) → has x order ≡ false → (v : T)
    → IsKept (next_with next 0 x) (prev_with next prev 0 x) (updated f x (Some v)) (next x) capacity (len + 1) (x ∷ order) spare
kept-added next prev f x capacity len order spare kept off v =
    let long = kept.long in let total : length order + suc (length spare) ≡ capacity = kept.total in
    record {
      lists = lists-added next prev order x spare kept.lists off;
      long = omega arith;
      total = omega arith;
      order_within = λ k on. elim (cases_Bool (eqb k x)) [
        | inl e ↦ subst (λ (m : ℕ). m ≤ capacity) (sym (eqb-true k x e)) (kept.spare_within x (has_first x x spare refl))
        | inr e ↦ kept.order_within k (has_in_rest k x order e on)
      ];
      spare_within = λ k on. kept.spare_within k (has_later k x spare on);
      filled = λ k on. elim (cases_Bool (eqb x k)) [
        | inl y ↦ (v, updated_here f x (Some v) k (eqb-true x k y))
        | inr y ↦ let was = kept.filled k (has_in_rest k x order (eqb_turned x k y) on) in (was.0, updated_apart f x (Some v) k y ∙ was.1)
      ];
      only = λ k w e. elim (cases_Bool (eqb x k)) [
        | inl y ↦ has_first k x order (sym (eqb-true x k y))
        | inr y ↦ has_later k x order (kept.only k w (sym (updated_apart f x (Some v) k y) ∙ e))
      ];
    }
