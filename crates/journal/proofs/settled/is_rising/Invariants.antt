use Rattle.std.specs.Prelude.{◌<◌}
use Rattle.std.specs.List.{AllAdjacentBelow}
use Rattle.journal.specs.declared.receipt.Receipt.{Receipt as ReceiptValue}
use Rattle.journal.proofs.settled.is_rising.Given as goal

abbrev pub invariant-loop-next : goal.invariant-loop-next
invariant-loop-next l = AllAdjacentBelow (λ (before after : ReceiptValue). before.position < after.position) l.receipts l.next
