-- The place that stands there is the only one with its unique.
use Rattle.std.proofs.Common.{rules, ap, sym, ◌∙◌}
use Rattle.broker_core.specs.declared.unanswered.QueuePlace.{QueuePlace}
use Rattle.broker_core.proofs.RisingLaws.{first-here}
use Rattle.broker_core.proofs.unanswered.dense_index_of.Goals as goal

pub returns-then-place-unique : goal.returns-then-place-unique
returns-then-place-unique c =
    let place = c.in_ok-place.place.now in
    first-here c.args.unique c.args.places.now.items c.in_ok-index.index place c.requires.rising (search rules)
    (ap (λ (p : QueuePlace). p.unique) (sym c.in_ok-place.ensures.lookup) ∙ c.if-place-unique.true)
