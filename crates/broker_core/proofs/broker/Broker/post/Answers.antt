use Rattle.broker_core.proofs.Consistency.{consistent-posted}
use Rattle.broker_core.proofs.broker.Broker.post.Goals as goal

pub invariant_of-self : goal.invariant_of-self
invariant_of-self c = consistent-posted c.self.inside c.args.reply c.post.result c.post.new.self c.post.ensures.posted c.post.ensures.asked c.post.ensures.unchanged c.self.invariant
