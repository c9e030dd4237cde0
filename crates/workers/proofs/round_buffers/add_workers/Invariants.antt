use Rattle.std.specs.Prelude.{◌≡◌, vec_len}
use Rattle.std.specs.List.{All}
use Rattle.journal.specs.Receipts.{IsFresh}
use Rattle.workers.proofs.round_buffers.add_workers.Given as goal

abbrev pub invariant-loop-worker : goal.invariant-loop-worker
invariant-loop-worker l = (vec_len l.receipts ≡ l._worker) × All (IsFresh l.turns) l.receipts.items
