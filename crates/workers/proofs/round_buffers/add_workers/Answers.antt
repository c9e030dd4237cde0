-- the receipts that were made are as fresh as those before them
use Rattle.std.proofs.Common.{◌≤◌, arith}
use Rattle.std.proofs.lemmas.List.Elements.{All-push}
use Rattle.journal.specs.Receipts.{IsFresh}
use Rattle.workers.proofs.round_buffers.add_workers.Goals as goal

pub loop-worker-preserved : goal.loop-worker-preserved
loop-worker-preserved c =
    let room = c.in_ok-kept.ensures in
    let places : c.args.turns ≤ c.in_ok-kept.kept.places = omega (arith, room.places) in (
      omega (arith, c.in_ok-push.ensures.len, c.loop-worker.invariant.0),
      rw c.in_ok-push.ensures.items (All-push (IsFresh c.args.turns) c.loop-worker.receipts.items c.in_ok-kept.kept
          c.loop-worker.invariant.1 (room.empty, places, room.spare)),
    )
