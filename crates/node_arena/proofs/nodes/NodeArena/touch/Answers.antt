use Rattle.node_arena.proofs.Calls.{by_touch}
use Rattle.node_arena.proofs.Held.{index_here}
use Rattle.node_arena.proofs.Steps.{whole-touched, shown-touched, value_at-touched}
use Rattle.node_arena.proofs.nodes.NodeArena.touch.Goals as goal

pub link-node-requires : goal.link-node-requires
link-node-requires g c = let i = c.self.inside in (c.self.invariant.laid_out, index_here i.region i.spare i.capacity i.len c.self.invariant c.args.self.now c.self.view_is c.args.slot c.requires)

pub invariant_of-self : goal.invariant_of-self
invariant_of-self g c =
    let i = c.self.inside in let r2 = c.link_after.new.self in let node = c.link-node in let start = c.link-start in
    whole-touched i.region i.spare i.capacity i.len c.self.invariant c.args.self.now c.self.view_is c.args.slot c.requires r2
    (by_touch i.region node.result c.args.slot.index node.ensures.1 c.unlink.new.self c.unlink.ensures r2 start.result start.ensures.1 c.link_after.ensures)

pub returns-clause-first : goal.returns-clause-first
returns-clause-first g c =
    let i = c.self.inside in let r2 = c.link_after.new.self in let node = c.link-node in let start = c.link-start in
    shown-touched i.region i.spare i.capacity i.len c.self.invariant c.args.self.now c.self.view_is c.args.slot c.requires r2
    (by_touch i.region node.result c.args.slot.index node.ensures.1 c.unlink.new.self c.unlink.ensures r2 start.result start.ensures.1 c.link_after.ensures)

pub returns-clause-values : goal.returns-clause-values
returns-clause-values g c =
    let i = c.self.inside in let r2 = c.link_after.new.self in let node = c.link-node in let start = c.link-start in
    value_at-touched i.region i.spare i.capacity i.len c.self.invariant c.args.self.now c.self.view_is c.args.slot c.requires r2
    (by_touch i.region node.result c.args.slot.index node.ensures.1 c.unlink.new.self c.unlink.ensures r2 start.result start.ensures.1 c.link_after.ensures)
