use Rattle.std.proofs.Common.{sym, ap}
use Rattle.node_arena.specs.Region.{next_in}
use Rattle.node_arena.proofs.region.Region.next.Goals as goal

pub returns : goal.returns
returns g c = ((c.requires.0.placed _ _ c.node.ensures).1, sym (ap (next_in c.args.self.now) c.node.ensures))
