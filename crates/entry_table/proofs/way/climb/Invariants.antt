use Rattle.std.proofs.Common.{◌≡◌, ◌-◌, ◌≤◌, length, vec_len}
use Rattle.std.specs.Prelude.{vec_capacity}
use Rattle.entry_table.specs.EntryPlaces.{Climbs}
use Rattle.entry_table.specs.Slots.{kept_from}
use Rattle.entry_table.proofs.way.climb.Given as goal

-- the way leads from the first number to this one
abbrev pub invariant-loop-number : goal.invariant-loop-number
invariant-loop-number l = record {
  climbs : Climbs (kept_from l.slots) l.fn.number.0 l.way.items l.number.0;
  long : vec_len l.way ≤ length l.slots;
  capacity : vec_capacity l.way ≡ vec_capacity l.fn.way;
}

abbrev pub decreases-loop-number : goal.decreases-loop-number
decreases-loop-number l = length l.slots - vec_len l.way
