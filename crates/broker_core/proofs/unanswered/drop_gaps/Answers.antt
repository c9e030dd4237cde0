-- No ask is dropped, and there are no more asks than places. What is kept of all places is no gap.
use Rattle.std.proofs.Common.{rules, List, length, sym, ap, subst, arith}
use Rattle.std.proofs.lemmas.Fn.{filter_same}
use Rattle.broker_core.specs.Places.{is_filled, StartsFilled, EndsFilled, DropsGaps}
use Rattle.broker_core.specs.declared.unanswered.QueuePlace.{QueuePlace}
use Rattle.broker_core.proofs.GapLaws.{drops-all, drops-more, ends-filled, starts-filled}
use Rattle.broker_core.proofs.PlaceLaws.{asks-fewer}
use Rattle.broker_core.proofs.unanswered.drop_gaps.Goals as goal

pub overflow_sub-len : goal.overflow_sub-len
overflow_sub-len c =
    let left = c.drop_last_gaps.new.places in
    let long = left.ok.0 in
    omega (arith, long, asks-fewer left.items, ap length c.drop_last_gaps.ensures.dropped.asks, ap length c.drop_first_gaps.ensures.dropped.asks)

pub returns-then-len-asks-clause-dropped : goal.returns-then-len-asks-clause-dropped
returns-then-len-asks-clause-dropped c = drops-more _ _ _ c.drop_first_gaps.ensures.dropped c.drop_last_gaps.ensures.dropped

pub returns-clause-dropped : goal.returns-clause-dropped
returns-clause-dropped c =
    let left = c.drop_last_gaps.new.places.items in
    let kept = filter_same _ is_filled _ (λ x b f r. search rules) _ _ c.retain.ensures.filtered in
    subst (λ (ps : List QueuePlace). DropsGaps c.args.places.now.items ps) (sym kept)
    (drops-more _ left _ (drops-more _ _ left c.drop_first_gaps.ensures.dropped c.drop_last_gaps.ensures.dropped) (drops-all left))

pub returns-clause-first : goal.returns-clause-first
returns-clause-first c =
    let kept = filter_same _ is_filled _ (λ x b f r. search rules) _ _ c.retain.ensures.filtered in
    subst StartsFilled (sym kept) (starts-filled c.drop_last_gaps.new.places.items)

pub returns-clause-last : goal.returns-clause-last
returns-clause-last c =
    let kept = filter_same _ is_filled _ (λ x b f r. search rules) _ _ c.retain.ensures.filtered in
    subst EndsFilled (sym kept) (ends-filled c.drop_last_gaps.new.places.items)
