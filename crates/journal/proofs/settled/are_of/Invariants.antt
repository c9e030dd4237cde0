use Rattle.std.specs.List.{AllWithin}
use Rattle.journal.specs.Settled.{IsOf}
use Rattle.journal.proofs.settled.are_of.Given as goal

abbrev pub invariant-loop-receipt : goal.invariant-loop-receipt
invariant-loop-receipt l = AllWithin (IsOf l.records) l.receipts 0 l.receipt-index
