-- What a search by halving finds among made files that rise.
use Rattle.std.proofs.Common.{◌≡◌, ℕ, zero, suc, ◌<◌, ◌≤◌, ◌==◌, Bool, true, false, cond, List, [], ◌∷◌, get_or, length, Some, None, Err, refl, ap, ◌∙◌, inl, inr, arith}
use Rattle.std.proofs.Math.ListN.{get_or-map}
use Rattle.std.proofs.lemmas.Bool.{cases_order}
use Rattle.std.proofs.lemmas.Bool.Decides.{nat_tests}
use Rattle.std.proofs.lemmas.Map.Keys.{below_from_sorted, sorted_tail}
use Rattle.std.specs.List.{find}
use Rattle.std.specs.List.Sorted.{IsBinarySearchResult, IsNonDecreasingBy, IsStrictlySortedBy}
use Rattle.std.specs.Ordering.{nat_cmp, ordering_index}
use Rattle.std.specs.declared.cmp.Ordering.TheVariants.{Equal, Greater, Less}
use Rattle.checkout.specs.declared.changes.Made.{Made}
use Rattle.checkout.specs.Changes.{file_ids}

-- the id at a place
abbrev id_at : List Made → ℕ → Made → ℕ
id_at xs i d = (get_or xs i d).file.0

ids_rise : (xs : List Made) (i j : ℕ) (d : Made) → IsStrictlySortedBy nat_cmp (file_ids xs) → i < j → j < length xs → id_at xs i d < id_at xs j d
ids_rise xs i j d rising below within =
    let long = length_ids xs in
    let less = below_from_sorted (file_ids xs) i j d.file.0 rising below (omega (arith, long, within)) in
    let at_i = get_or-map (λ (x : Made). x.file.0) xs i d in
    let at_j = get_or-map (λ (x : Made). x.file.0) xs j d in
    omega (arith, less, at_i, at_j)
  where
    length_ids : (ys : List Made) → length (file_ids ys) ≡ length ys
    length_ids [] = refl
    length_ids (y ∷ ys) = ap suc (length_ids ys)

module _ (n : ℕ) where
  -- the file has this id
  abbrev is_it : Made → Bool
  is_it x = x.file.0 == n

  equal_ids : (a : ℕ) → a ≡ n → (a == n) ≡ true
  equal_ids a e = grind (arith, nat_tests)

  other_ids : (a : ℕ) → (a ≡ n → ⊥) → (a == n) ≡ false
  other_ids a e = grind (arith, nat_tests)

  -- the first with an id is the only one
  pub find_at : (xs : List Made) (i : ℕ) (d : Made) → IsStrictlySortedBy nat_cmp (file_ids xs) → i < length xs → id_at xs i d ≡ n → find is_it xs ≡ Some (get_or xs i d)
  find_at [] i d rising within here = absurd (omega (arith, within))
  find_at (x ∷ xs) zero d rising within here = ap (λ b. cond b (Some x) (find is_it xs)) (equal_ids x.file.0 here)
  find_at (x ∷ xs) (suc i) d rising within here =
      let less = ids_rise (x ∷ xs) 0 (suc i) d rising (omega arith) within in
      ap (λ b. cond b (Some x) (find is_it xs)) (other_ids x.file.0 (λ e. omega (arith, less, here, e)))
      ∙ find_at xs i d (sorted_tail nat_cmp x.file.0 (file_ids xs) rising) (omega (arith, within)) here

  -- there is none
  find_none : (xs : List Made) → ((i : ℕ) (d : Made) → i < length xs → id_at xs i d ≡ n → ⊥) → find is_it xs ≡ None
  find_none [] h = refl
  find_none (x ∷ xs) h =
      ap (λ b. cond b (Some x) (find is_it xs)) (other_ids x.file.0 (h 0 x (omega arith))) ∙ find_none xs (λ i d within. h (suc i) d (omega (arith, within)))

  -- the comparisons with the id rise as the ids do
  comparisons_rise : (xs : List Made) → IsStrictlySortedBy nat_cmp (file_ids xs) → IsNonDecreasingBy (λ (x : Made). ordering_index (nat_cmp x.file.0 n)) xs
  comparisons_rise xs rising i j d le within =
      let rise : id_at xs i d ≤ id_at xs j d = grind (arith, ids_rise xs i j d rising, λ (same : i ≡ j). ap (λ k. id_at xs k d) same) in
      ordered (id_at xs i d) (id_at xs j d) rise
    where
      ordered : (a b : ℕ) → a ≤ b → ordering_index (nat_cmp a n) ≤ ordering_index (nat_cmp b n)
      ordered a b h = grind (arith, nat_tests)

  -- the file at which a search ends is the first with its id
  pub searched-found : (xs : List Made) (i : ℕ) (d : Made) → IsStrictlySortedBy nat_cmp (file_ids xs) → i < length xs → nat_cmp (id_at xs i d) n ≡ Equal → find is_it xs ≡ Some (get_or xs i d)
  searched-found xs i d rising within e = find_at xs i d rising within (same (id_at xs i d) e)
    where
      same : (a : ℕ) → nat_cmp a n ≡ Equal → a ≡ n
      same a h = grind (arith, nat_tests)

  -- where it ends between two there is none
  pub searched-missing : (xs : List Made) (i : ℕ) → IsStrictlySortedBy nat_cmp (file_ids xs) → IsBinarySearchResult (λ (x : Made). nat_cmp x.file.0 n) xs (Err i) → find is_it xs ≡ None
  searched-missing xs i rising parted =
      let parts = parted (comparisons_rise xs rising) in
      find_none xs (λ j d within e. elim (cases_order i j) [
        | inl here ↦ above (id_at xs j d) e (parts.1 j d (omega (arith, here)) within)
        | inr (inl behind) ↦ above (id_at xs j d) e (parts.1 j d (omega (arith, behind)) within)
        | inr (inr before) ↦ below (id_at xs j d) e (parts.0 j d (omega arith) before)
      ])
    where
      above : (a : ℕ) → a ≡ n → nat_cmp a n ≡ Greater → ⊥
      above a e h = grind (arith, nat_tests)

      below : (a : ℕ) → a ≡ n → nat_cmp a n ≡ Less → ⊥
      below a e h = grind (arith, nat_tests)
