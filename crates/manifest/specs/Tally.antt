-- How often each number below a room was counted.
use Rattle.std.specs.Prelude.{ℕ, List, slice_index}

-- the counts of the first numbers, while all others have 0, and how many numbers may be counted without taking memory
pub record Tally : Type 0 where
  pub counts : List ℕ
  pub room : ℕ

-- how often a number was counted
abbrev pub count_of : Tally → ℕ → ℕ
count_of tally n = slice_index tally.counts n
