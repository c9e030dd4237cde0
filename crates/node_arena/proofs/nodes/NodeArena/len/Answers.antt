use Rattle.node_arena.proofs.Held.{length_here}
use Rattle.node_arena.proofs.nodes.NodeArena.len.Goals as goal

pub returns : goal.returns
returns g c = let i = c.self.inside in record { len = length_here i.region i.spare i.capacity i.len c.self.invariant c.args.self.now c.self.view_is }
