-- Only gaps were dropped, and the queue gets shorter.
use Rattle.std.specs.VecDeque.{deque_len}
use Rattle.broker_core.specs.Places.{DropsGaps}
use Rattle.broker_core.proofs.unanswered.drop_first_gaps.Given as goal

abbrev pub invariant-loop-place : goal.invariant-loop-place
invariant-loop-place l = DropsGaps l.initial.places.items l.places.items

abbrev pub decreases-loop-place : goal.decreases-loop-place
decreases-loop-place l = deque_len l.places
