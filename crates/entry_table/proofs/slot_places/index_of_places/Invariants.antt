use Rattle.std.proofs.Common.{take}
use Rattle.entry_table.specs.Slots.{kept_from}
use Rattle.entry_table.specs.Standing.{place_of_number, IsIndexed}
use Rattle.entry_table.proofs.slot_places.index_of_places.Given as goal

-- the index has the entries of the slots so far
abbrev pub invariant-loop-number : goal.invariant-loop-number
invariant-loop-number l = IsIndexed (place_of_number (kept_from (take l.number-index l.slots))) l.index
