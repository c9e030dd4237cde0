use Rattle.broker_core.proofs.Consistency.{consistent-item}
use Rattle.broker_core.proofs.broker.Broker.issue_item.Goals as goal

pub invariant_of-self-2 : goal.invariant_of-self-2
invariant_of-self-2 c =
    rw (c.lower.ensures.lowered, c.in_ok-push_item.ensures.issued) (consistent-item c.self.inside c.args.item c.self.invariant)
