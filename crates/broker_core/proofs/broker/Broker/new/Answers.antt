use Rattle.broker_core.proofs.Consistency.{consistent-first}
use Rattle.broker_core.proofs.broker.Broker.new.Goals as goal

pub invariant_of-result : goal.invariant_of-result
invariant_of-result c = rw (c.new.ensures.none, c.new-2.ensures.none) consistent-first
