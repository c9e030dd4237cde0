use Rattle.std.proofs.Common.{◌≡◌, drop}
use Rattle.entry_table.specs.Slots.{kept_from, first_number}
use Rattle.entry_table.proofs.table.first_in.Given as goal

-- the first entry stands in none of the slots so far
abbrev pub invariant-loop-number : goal.invariant-loop-number
invariant-loop-number l = first_number (kept_from (drop l.number-index l.slots)) ≡ first_number (kept_from l.slots)
