use Rattle.broker_core.proofs.Consistency.{consistent-ended}
use Rattle.broker_core.proofs.broker.Broker.end.Goals as goal

pub invariant_of-self : goal.invariant_of-self
invariant_of-self c = rw (c.clear.ensures.none, c.clear-2.ensures.none) (consistent-ended c.self.inside c.self.invariant)
