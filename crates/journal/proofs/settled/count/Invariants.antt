use Rattle.std.specs.Prelude.{◌≡◌, ◌+◌, ℕ, length, take, slice_index, EachIndex}
use Rattle.journal.specs.Settled.{times}
use Rattle.journal.proofs.settled.count.Given as goal

abbrev pub invariant-loop-receipt : goal.invariant-loop-receipt
invariant-loop-receipt l =
    (length l.counts.items ≡ length l.fn.counts.items)
    × EachIndex l.fn.counts.items (λ (position : ℕ). slice_index l.counts.items position
    ≡ slice_index l.fn.counts.items position + times (take l.receipt-index l.receipts) position)
