-- No place is in order.
use Rattle.std.proofs.Common.{◌≡◌, ◌+◌, List, [], length, refl, sym, subst}
use Rattle.broker_core.specs.Rising.{IsRising}
use Rattle.broker_core.specs.Places.{asks_at, PlacesRise, StartsFilled, EndsFilled}
use Rattle.broker_core.specs.declared.unanswered.QueuePlace.{QueuePlace}
use Rattle.broker_core.proofs.PlaceLaws.{rising-asks}
use Rattle.broker_core.proofs.RisingLaws.{rising-none}
use Rattle.broker_core.proofs.unanswered.Unanswered.new.Goals as goal

pub invariant_of-result : goal.invariant_of-result
invariant_of-result c =
    let none = sym c.new.ensures.items in
    record {
      rising = subst PlacesRise none rising-none;
      counted = subst (λ (ps : List QueuePlace). 0 + length (asks_at ps) ≡ length ps) none refl;
      first = subst StartsFilled none tt;
      last = subst EndsFilled none tt;
    }

pub returns-clause-rising : goal.returns-clause-rising
returns-clause-rising c = subst (λ (ps : List QueuePlace). IsRising (asks_at ps)) (sym c.new.ensures.items) (rising-asks [] rising-none)
