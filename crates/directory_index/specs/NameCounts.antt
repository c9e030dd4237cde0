-- How many names each directory has, as they are counted.
use Rattle.std.specs.Prelude.{◌≡◌, ℕ, ◌≤◌, true, List, length, nat_eq, unwrap_or}
use Rattle.std.specs.HashMap.{get}
use Rattle.directory_index.specs.Rising.{is_in, IsRising}
use Rattle.directory_index.specs.Standing.{Standing, StandsIn}
use Rattle.directory_index.specs.declared.name_counts.NameCounts.{NameCounts}

-- how many names the directory has
abbrev pub counted : NameCounts → ℕ → ℕ
counted counts dir = unwrap_or (get nat_eq counts.directories dir) 0

-- these are the numbers that stand in the directory, by rising order
pub record AreNumbersIn (at : Standing) (dir : ℕ) (numbers : List ℕ) : Type 0 where
  pub rising : IsRising numbers
  pub each : (number : ℕ) → StandsIn at dir number → is_in number numbers ≡ true
  pub no_others : (number : ℕ) → is_in number numbers ≡ true → StandsIn at dir number

-- the count of each directory is how many numbers stand in it, and no count exceeds the bound
pub record AreCountsOf (at : Standing) (counts : NameCounts) : Type 0 where
  pub each : (dir : ℕ) → (numbers : List ℕ) × AreNumbersIn at dir numbers × (counted counts dir ≡ length numbers)
  pub bound : (dir : ℕ) → counted counts dir ≤ counts.bound
