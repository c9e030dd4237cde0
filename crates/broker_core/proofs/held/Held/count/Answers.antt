use Rattle.std.proofs.Common.{Some, None, sym}
use Rattle.broker_core.proofs.TreeLaws.{held_count-found}
use Rattle.broker_core.proofs.held.Held.count.Goals as goal

pub returns-in-Some : goal.returns-in-Some
returns-in-Some c = record { count = rw (← c.self.view_is) (sym (held_count-found c.self.inside.counts.entries c.args.number.0 (Some c.in-Some.count.now) (sym c.in-Some.ensures.value))) }

pub returns-in-None : goal.returns-in-None
returns-in-None c = record { count = rw (← c.self.view_is) (sym (held_count-found c.self.inside.counts.entries c.args.number.0 None (sym c.in-None.ensures.value))) }
