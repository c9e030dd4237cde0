-- Lists of numbers, as sets and by rising order.
use Rattle.std.specs.Prelude.{◌≡◌, ℕ, ◌<◌, ◌≤◌, Bool, true, false, List, [], ◌∷◌, Option, None, Some, length, slice_index_or}
use Rattle.std.specs.BTreeMap.{is_at}
use Rattle.std.specs.List.{list_any}
use Rattle.std.specs.Ordering.{nat_cmp}

-- whether the number is in a list
abbrev pub is_in : ℕ → List ℕ → Bool
is_in number numbers = list_any (is_at (nat_cmp number)) numbers

-- whether a list has a member
abbrev pub is_some_in : List ℕ → Bool
is_some_in [] = false
is_some_in (n ∷ ns) = true

-- each number is greater than those before it
abbrev pub IsRising : List ℕ → Type 0
IsRising numbers = (i j : ℕ) → i < j → j < length numbers → slice_index_or numbers i 0 < slice_index_or numbers j 0

-- the numbers before this index are less than `number`, and those from it on are greater
pub record IsGap (numbers : List ℕ) (number index : ℕ) : Type 0 where
  pub bound : index ≤ length numbers
  pub below : (k : ℕ) → k < index → slice_index_or numbers k 0 < number
  pub above : (k : ℕ) → index ≤ k → k < length numbers → number < slice_index_or numbers k 0

-- the least number of a list from `least` on, or none
abbrev pub IsFirstOf : List ℕ → ℕ → Option ℕ → Type 0
IsFirstOf numbers least (Some number) =
    (is_in number numbers ≡ true) × (least ≤ number)
    × ((other : ℕ) → is_in other numbers ≡ true → least ≤ other → number ≤ other)
IsFirstOf numbers least None = (other : ℕ) → least ≤ other → is_in other numbers ≡ false
