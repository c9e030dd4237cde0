-- What was taken in so far.
use Rattle.std.proofs.Common.{length}
use Rattle.sockets.proofs.Passages.{Took}
use Rattle.sockets.proofs.passage.Passage.pass_all.Given as goal

abbrev pub invariant-loop-left : goal.invariant-loop-left
invariant-loop-left l = Took l.fn.self l.fn.bytes l.self l.left l.ended

abbrev pub decreases-loop-left : goal.decreases-loop-left
decreases-loop-left l = length l.left
