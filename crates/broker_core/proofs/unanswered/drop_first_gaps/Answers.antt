-- The place that is dropped is a gap.
use Rattle.std.proofs.Common.{rules, List, sym, subst}
use Rattle.broker_core.specs.Places.{DropsGaps}
use Rattle.broker_core.specs.declared.unanswered.QueuePlace.{QueuePlace}
use Rattle.broker_core.proofs.GapLaws.{drops-front, drops-more}
use Rattle.broker_core.proofs.unanswered.drop_first_gaps.Goals as goal

pub loop-place-preserved : goal.loop-place-preserved
loop-place-preserved c =
    let ps = c.loop-place.places.items in
    subst (λ (qs : List QueuePlace). DropsGaps c.args.places.now.items qs) (sym c.pop_front-gap.ensures.rest)
    (drops-more c.args.places.now.items ps _ c.loop-place.invariant (drops-front ps c.in-Some.place.now c.in-Some.ensures.lookup (search rules)))
