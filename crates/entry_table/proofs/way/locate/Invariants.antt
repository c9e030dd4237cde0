use Rattle.std.proofs.Common.{◌≡◌, ℕ, vec_len}
use Rattle.std.specs.Prelude.{vec_capacity}
use Rattle.entry_table.specs.EntryPlaces.{Climbs}
use Rattle.entry_table.specs.Entries.{IsFileOf}
use Rattle.entry_table.specs.Slots.{kept_from}
use Rattle.entry_table.proofs.way.locate.Given as goal

-- what is left of the way leads to a number of the file
abbrev pub invariant-loop-number : goal.invariant-loop-number
invariant-loop-number l = record {
  top : ℕ;
  climbs : Climbs (kept_from l.slots) l.fn.number.0 l.way.items top;
  at : IsFileOf l.tree (kept_from l.slots) top l.file;
  capacity : vec_capacity l.way ≡ vec_capacity l.fn.way;
}

abbrev pub decreases-loop-number : goal.decreases-loop-number
decreases-loop-number l = vec_len l.way
