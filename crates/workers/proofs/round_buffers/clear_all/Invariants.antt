use Rattle.std.specs.Prelude.{ℕ}
use Rattle.std.specs.List.{All, AllWithin}
use Rattle.workers.specs.Buffers.{HasNone, HasPlaces}
use Rattle.workers.proofs.round_buffers.clear_all.Given as goal

abbrev pub invariant-loop-kept : goal.invariant-loop-kept
invariant-loop-kept l =
    AllWithin HasNone l.receipts 0 l.kept-index
    × ((turns : ℕ) → All (HasPlaces turns) l.fn.receipts → All (HasPlaces turns) l.receipts)
