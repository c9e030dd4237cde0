use Rattle.std.specs.Prelude.{◌≡◌, ℕ, length, take, slice_index, EachIndex}
use Rattle.std.specs.List.{All, AllWithin}
use Rattle.journal.specs.Receipts.{ReceiptsState}
use Rattle.journal.specs.Settled.{IsOf, IsRising, times_in_all}
use Rattle.journal.proofs.settled.is_settled.Given as goal

abbrev pub invariant-loop-kept : goal.invariant-loop-kept
invariant-loop-kept l =
    (length l.counts.items ≡ length l.records)
    × AllWithin (λ (kept : ReceiptsState). All (IsOf l.records) kept.list) l.workers 0 l.kept-index
    × AllWithin (λ (kept : ReceiptsState). IsRising kept.list) l.workers 0 l.kept-index
    × EachIndex l.records (λ (position : ℕ).
    slice_index l.counts.items position ≡ times_in_all (take l.kept-index l.workers) position)
