use Rattle.std.specs.List.{AllWithin}
use Rattle.journal.specs.Receipts.{IsFresh}
use Rattle.workers.proofs.round_buffers.are_fresh.Given as goal

abbrev pub invariant-loop-kept : goal.invariant-loop-kept
invariant-loop-kept l = AllWithin (IsFresh l.turns) l.receipts 0 l.kept-index
