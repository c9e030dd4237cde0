-- A step stays among the slots.
use Rattle.std.proofs.Common.{◌<◌, length}
use Rattle.entry_table.proofs.dense.index_by_steps.Given as goal

abbrev pub invariant-loop : goal.invariant-loop
invariant-loop l = (l.index < length l.slots) × (l.last < length l.slots)
