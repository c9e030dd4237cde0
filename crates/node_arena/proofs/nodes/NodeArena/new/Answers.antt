use Rattle.node_arena.proofs.Making.{whole-new}
use Rattle.node_arena.proofs.nodes.NodeArena.new.Goals as goal

pub invariant_of-result : goal.invariant_of-result
invariant_of-result g c =
    let made = c.in_ok-region.ensures in let spare = c.link-spare in
    whole-new c.in_ok-region.region spare.result c.args.capacity made.0 made.1 made.2 spare.ensures.0 spare.ensures.1 c.requires.least c.requires.most
