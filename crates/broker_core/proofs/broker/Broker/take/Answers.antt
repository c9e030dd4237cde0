use Rattle.broker_core.proofs.Consistency.{consistent-take}
use Rattle.broker_core.proofs.broker.Broker.take.Goals as goal

pub invariant_of-self : goal.invariant_of-self
invariant_of-self c = rw c.take.ensures.left (consistent-take c.self.inside c.self.invariant)
