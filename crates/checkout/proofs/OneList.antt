-- A list whose places rise is told by its members.
use Rattle.std.proofs.Common.{◌≡◌, zero, suc, List, [], ◌∷◌, map, refl, sym, ap, subst, ◌∙◌, ◌⊎◌, inl, inr, arith}
use Rattle.std.proofs.lemmas.List.Elements.{Contains-append_right}
use Rattle.std.proofs.lemmas.Map.Keys.{sorted_head, sorted_tail}
use Rattle.std.specs.Cmp.{IsTotalOrder, tied_itself}
use Rattle.std.specs.List.{AllByRecursion, Contains}
use Rattle.std.specs.List.Sorted.{IsStrictlySortedBy}
use Rattle.std.specs.Ordering.{ordering_reverse}
use Rattle.std.specs.declared.cmp.Ordering.{Ordering}
use Rattle.std.specs.declared.cmp.Ordering.TheVariants.{Less}

-- a member is the first, or one of the others
pub contains_cases : {X : Type 0} (y x : X) (ys : List X) → Contains (y ∷ ys) x → (y ≡ x) ⊎ Contains ys x
contains_cases y x ys (zero, within, is) = inl is
contains_cases y x ys (suc k, within, is) = inr (k, omega arith, is)

all_from_contains : {X K : Type 0} (place : X → K) (P : K → Type 0) (xs : List X) (x : X) → AllByRecursion P (map place xs) → Contains xs x → P (place x)
all_from_contains place P [] x all (k, within, is) = absurd (omega arith)
all_from_contains place P (y ∷ ys) x all h =
    elim (contains_cases y x ys h) [
      | inl same ↦ subst (λ z. P (place z)) same all.0
      | inr later ↦ all_from_contains place P ys x all.1 later
    ]

module _ {X K : Type 0} {R : K → K → Ordering} (o : IsTotalOrder R) (place : X → K) where
  not_below_itself : (k : K) → R k k ≡ Less → ⊥
  not_below_itself k h = let e = tied_itself o k in cc (e, h)

  not_both_below : (j k : K) → R j k ≡ Less → R k j ≡ Less → ⊥
  not_both_below j k g h = let e = o.antisymm j k ∙ ap ordering_reverse h in cc (e, g)

  -- the first of two such lists is the same
  same_first : (x y : X) (xs ys : List X) → AllByRecursion (λ k. R (place x) k ≡ Less) (map place xs) → AllByRecursion (λ k. R (place y) k ≡ Less) (map place ys) → Contains (y ∷ ys) x → Contains (x ∷ xs) y → x ≡ y
  same_first x y xs ys above_x above_y in_y in_x =
      elim (contains_cases y x ys in_y) [
        | inl same ↦ sym same
        | inr later ↦ elim (contains_cases x y xs in_x) [
          | inl same ↦ same
          | inr behind ↦ absurd (not_both_below (place x) (place y) (all_from_contains place (λ k. R (place x) k ≡ Less) xs y above_x behind) (all_from_contains place (λ k. R (place y) k ≡ Less) ys x above_y later))
        ]
      ]

  behind_first : (x z : X) (xs ys : List X) → AllByRecursion (λ k. R (place x) k ≡ Less) (map place xs) → Contains xs z → Contains (x ∷ ys) z → Contains ys z
  behind_first x z xs ys above here there =
      elim (contains_cases x z ys there) [
        | inl same ↦ absurd (not_below_itself (place x) (all_from_contains place (λ k. R (place x) k ≡ Less) xs x above (subst (Contains xs) (sym same) here)))
        | inr later ↦ later
      ]

  pub one_list : (xs ys : List X) → IsStrictlySortedBy R (map place xs) → IsStrictlySortedBy R (map place ys) → ((z : X) → Contains xs z → Contains ys z) → ((z : X) → Contains ys z → Contains xs z) → xs ≡ ys
  one_list [] [] g h to from = refl
  one_list [] (y ∷ ys) g h to from = let w = from y (0, omega arith, refl) in absurd (omega (arith, w.1))
  one_list (x ∷ xs) [] g h to from = let w = to x (0, omega arith, refl) in absurd (omega (arith, w.1))
  one_list (x ∷ xs) (y ∷ ys) g h to from =
      let above_x = sorted_head R (place x) (map place xs) g in
      let above_y = sorted_head R (place y) (map place ys) h in
      let same = same_first x y xs ys above_x above_y (to x (0, omega arith, refl)) (from y (0, omega arith, refl)) in
      let rest = one_list xs ys (sorted_tail R (place x) (map place xs) g) (sorted_tail R (place y) (map place ys) h)
      (λ z here. behind_first x z xs ys above_x here (subst (λ w. Contains (w ∷ ys) z) (sym same) (to z (Contains-append_right (x ∷ []) xs z here))))
      (λ z here. behind_first y z ys xs above_y here (subst (λ w. Contains (w ∷ xs) z) same (from z (Contains-append_right (y ∷ []) ys z here)))) in
      λ i. same i ∷ rest i
