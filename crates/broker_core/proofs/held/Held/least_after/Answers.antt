use Rattle.broker_core.proofs.TreeLaws.{least-first, least-none}
use Rattle.broker_core.proofs.held.Held.least_after.Goals as goal

pub returns-in_err-next : goal.returns-in_err-next
returns-in_err-next c = record { least = rw (c.from_residual.ensures, ← c.self.view_is) (least-none c.self.inside.counts c.args.number.0 c.range-above.result (c.range-above.ensures.in_range tt) c.in_err-next.ensures.steps.0) }

pub returns : goal.returns
returns c = record { least = rw (← c.self.view_is) (least-first c.self.inside.counts c.args.number.0 c.range-above.result c.next.new.self c.in_ok-next.next.now c.in_ok-next._count.now c.self.invariant (c.range-above.ensures.in_range tt) c.in_ok-next.ensures.steps) }
