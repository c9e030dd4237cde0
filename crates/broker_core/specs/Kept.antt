-- What holds of the tree of held numbers, whatever becomes of them.
use Rattle.std.specs.Prelude.{◌≢◌, ℕ, Some}
use Rattle.std.specs.BTreeMap.{get}
use Rattle.std.specs.Ordering.{nat_cmp}
use Rattle.broker_core.specs.declared.held.Held.TheInside.{Inside}

-- no number in the tree has count 0
abbrev pub IsKept : Inside → Type 0
IsKept held = (n : ℕ) → get nat_cmp held.counts n ≢ Some 0
