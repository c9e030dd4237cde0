-- The front of a list, and what is left after it.
use Rattle.std.proofs.Common.{◌≡◌, ℕ, ◌≤◌, List, length, take, drop, sym, ◌∙◌, arith}
use Rattle.std.proofs.lemmas.List.{take_all, drop_all, length-drop}

-- where nothing is left, no more can be taken
pub no_more : {X : Type 0} (xs : List X) (i n : ℕ) → i ≤ n → length (drop i xs) ≡ 0 → (take i xs ≡ take n xs) × (drop i xs ≡ drop n xs)
no_more xs i n l h =
    let short : length xs ≤ i = omega (arith, length-drop i xs) in
    (take_all i xs short ∙ sym (take_all n xs (omega arith)), drop_all i xs short ∙ sym (drop_all n xs (omega arith)))
