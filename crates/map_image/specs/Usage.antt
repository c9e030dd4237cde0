-- The directories in which entries stand, as a list that can be searched.
use Rattle.std.specs.Prelude.{◌≡◌, ◌<◌, ◌≤◌, ℕ, Bool, ◌==◌, List, length, get_or}
use Rattle.std.specs.List.{list_any}
use Rattle.entry_table.specs.Entries.{is_kid_of}
use Rattle.entry_table.specs.declared.kept.Kept.{Kept}

abbrev pub is_number : ℕ → ℕ → Bool
is_number n p = p == n

-- a number is in the list exactly if an entry stands in its directory
abbrev pub HasParents : List Kept → List ℕ → Type 0
HasParents entries parents = (n : ℕ) → list_any (is_number n) parents ≡ list_any (is_kid_of n) entries

-- such a list, in which the numbers rise
pub record AreParents (entries : List Kept) (parents : List ℕ) : Type 0 where
  pub has : HasParents entries parents
  pub rise : (i j : ℕ) → i ≤ j → j < length parents → get_or parents i 0 ≤ get_or parents j 0
