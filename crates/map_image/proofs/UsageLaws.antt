-- A number that a search doesn't find among rising ones is none of them.
use Rattle.std.proofs.Common.{All, ◌≡◌, ◌<◌, ◌≤◌, ℕ, false, eqb, ltb, List, length, get_or, Err, refl, sym, ap, ◌∙◌, inl, inr, arith}
use Rattle.std.specs.List.{list_any}
use Rattle.std.specs.List.Sorted.{IsBinarySearchResult}
use Rattle.std.specs.Ordering.{nat_cmp}
use Rattle.std.proofs.lemmas.Bool.{cases_lt, le-ltb}
use Rattle.std.proofs.lemmas.Bool.Decides.{nat_tests}
use Rattle.std.proofs.lemmas.List.{get_or_default}
use Rattle.std.proofs.lemmas.List.Folds.{list_any_none}
use Rattle.std.proofs.lemmas.List.Sorted.{searched}
use Rattle.entry_table.specs.Entries.{is_of_use}
use Rattle.entry_table.specs.declared.kept.Kept.{Kept}
use Rattle.map_image.specs.Usage.{is_number, AreParents}

below_is_other : (a b : ℕ) → a < b → eqb a b ≡ false
below_is_other a b lt = grind (arith, nat_tests)

above_is_other : (a b : ℕ) → b < a → eqb a b ≡ false
above_is_other a b lt = grind (arith, nat_tests)

others : (xs : List ℕ) (n i : ℕ) → ((k : ℕ) → k < i → get_or xs k 0 < n) → ((k : ℕ) → i ≤ k → k < length xs → n < get_or xs k 0) → All (λ (x : ℕ). is_number n x ≡ false) xs
others xs n i low high k d lt =
    elim (cases_lt k i) [
      | inl under ↦ ap (is_number n) (get_or_default xs k d 0 lt) ∙ below_is_other (get_or xs k 0) n (low k under)
      | inr over ↦ ap (is_number n) (get_or_default xs k d 0 lt) ∙ above_is_other (get_or xs k 0) n (high k over lt)
    ]

pub not_found : (entries : List Kept) (kept : Kept) (parents : List ℕ) (i : ℕ) → AreParents entries parents → kept.count ≤ 0 → IsBinarySearchResult (λ y. nat_cmp y kept.number.0) parents (Err i) → false ≡ is_of_use entries kept
not_found entries kept parents i are none search =
    let n = kept.number.0 in
    let found = searched parents n (Err i) search are.rise in
    let absent : list_any (is_number n) parents ≡ false = list_any_none (is_number n) parents (others parents n i found.1 found.2) in
    let idle : ltb 0 kept.count ≡ false = le-ltb _ _ none in
    rw (idle, sym (are.has n), absent) refl
