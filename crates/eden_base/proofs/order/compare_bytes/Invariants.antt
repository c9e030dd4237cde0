-- What is left of both is ordered as both are.
use Rattle.std.proofs.Common.{length}
use Rattle.eden_base.proofs.OrderLemmas.{IsLeft}
use Rattle.eden_base.proofs.order.compare_bytes.Given as goal

abbrev pub invariant-loop-front : goal.invariant-loop-front
invariant-loop-front l = IsLeft l.left l.right l.left_rest l.right_rest

abbrev pub decreases-loop-front : goal.decreases-loop-front
decreases-loop-front l = length l.left_rest
