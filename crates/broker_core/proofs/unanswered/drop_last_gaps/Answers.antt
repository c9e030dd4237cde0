-- The place that is dropped is a gap, and the one at which the loop ends is none.
use Rattle.std.proofs.Common.{rules, List, sym, subst}
use Rattle.std.specs.VecDeque.{deque_len}
use Rattle.broker_core.specs.Places.{DropsGaps}
use Rattle.broker_core.specs.declared.unanswered.QueuePlace.{QueuePlace}
use Rattle.broker_core.proofs.GapLaws.{drops-back, drops-more, ends-here}
use Rattle.broker_core.proofs.unanswered.drop_last_gaps.Goals as goal

pub returns-then-is_some-clause-last : goal.returns-then-is_some-clause-last
returns-then-is_some-clause-last c =
    let places = c.loop-place.places in
    ends-here places.items (deque_len places) c.in-Some.place.now places.ok.0 c.in-Some.ensures.lookup (search rules)

pub loop-place-preserved : goal.loop-place-preserved
loop-place-preserved c =
    let places = c.loop-place.places in
    subst (λ (qs : List QueuePlace). DropsGaps c.args.places.now.items qs) (sym c.pop_back-gap.ensures.rest)
    (drops-more c.args.places.now.items places.items _ c.loop-place.invariant
    (drops-back places.items (deque_len places) c.in-Some.place.now places.ok.0 c.in-Some.ensures.lookup (search rules)))
