use Rattle.std.specs.Prelude.{◌≡◌, ◌+◌, ◌≤◌, length, true}
use Rattle.workers.specs.Channel.{grown}
use Rattle.workers.specs.Endings.{Goes}
use Rattle.workers.proofs.ended_worker.serve_channel.Given as goal

abbrev pub invariant-loop-turn : goal.invariant-loop-turn
invariant-loop-turn g l =
    (l.worker.share.parts + length l.worker.receipts.list ≡ l.fn.given.share.parts)
    × (l.worker.receipts.places + length l.worker.receipts.list ≡ l.fn.given.receipts.places)
    × (l.worker.receipts.spare ≡ true)
    × (length l.worker.receipts.list ≤ l.turn)
    × (l.worker.share.amount ≡ l.fn.given.share.amount + length l.worker.receipts.list)
    × Goes g.C.Channel.takes g.C.Channel.posts l.fn.given.channel l.worker.receipts.list l.worker.channel
    × (g.C.Channel.reports ≡ true → g.C.Channel.reported l.worker.channel ≡ grown (g.C.Channel.reported l.fn.given.channel) l.worker.receipts.list)
