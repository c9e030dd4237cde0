use Rattle.node_arena.proofs.Held.{sound_here}
use Rattle.node_arena.proofs.nodes.NodeArena.slots_are_apart.Goals as goal

pub returns : goal.returns
returns g c = let i = c.self.inside in record { sound = sound_here i.region i.spare i.capacity i.len c.self.invariant c.args.self.now c.self.view_is }
