use Rattle.std.proofs.Common.{sym, ◌∙◌, subst}
use Rattle.std.specs.Prelude.{IsSome}
use Rattle.node_arena.proofs.Calls.{by_remove}
use Rattle.node_arena.proofs.Held.{value_here, item_here, index_here}
use Rattle.node_arena.proofs.Shown.{same_then, placed-same, place_of-same}
use Rattle.node_arena.proofs.Steps.{whole-removed, shown-removed, value_at-removed, value_at-others}
use Rattle.node_arena.proofs.nodes.NodeArena.remove.Goals as goal

pub link-node-requires : goal.link-node-requires
link-node-requires g c = let i = c.self.inside in (c.self.invariant.laid_out, index_here i.region i.spare i.capacity i.len c.self.invariant c.args.self.now c.self.view_is c.args.slot c.requires)

pub take-requires : goal.take-requires
take-requires g c =
    let i = c.self.inside in let r2 = c.set_next.new.self in let node = c.link-node in
    let same = same_then i.region c.unlink.new.self r2 c.unlink.ensures.block c.set_next.ensures.block in
    let at = place_of-same i.region r2 node.result same ∙ node.ensures.1 in
    let there = item_here i.region i.spare i.capacity i.len c.self.invariant c.args.self.now c.self.view_is c.args.slot c.requires in
    (c.set_next.ensures.laid_out, placed-same i.region r2 node.result same node.ensures.0, subst (λ o. IsSome o) (λ j. sym (c.set_next.ensures.value ∙ c.unlink.ensures.value) j (sym at j)) there)

pub invariant_of-self : goal.invariant_of-self
invariant_of-self g c =
    let i = c.self.inside in let node = c.link-node in
    whole-removed i.region i.spare i.capacity i.len c.self.invariant c.args.self.now c.self.view_is c.args.slot c.requires node.result node.ensures.0 node.ensures.1 c.take.new.self
    (by_remove i.region node.result c.args.slot.index node.ensures.1 c.unlink.new.self c.unlink.ensures c.set_next.new.self c.take.new.self i.spare c.set_next.ensures c.take.ensures.emptied)

pub returns-clause-value : goal.returns-clause-value
returns-clause-value g c =
    let i = c.self.inside in let r2 = c.set_next.new.self in let node = c.link-node in
    let same = same_then i.region c.unlink.new.self r2 c.unlink.ensures.block c.set_next.ensures.block in
    let at = place_of-same i.region r2 node.result same ∙ node.ensures.1 in
    value_here i.region i.spare i.capacity i.len c.self.invariant c.args.self.now c.self.view_is c.args.slot
    ∙ (λ j. sym (c.set_next.ensures.value ∙ c.unlink.ensures.value) j (sym at j)) ∙ c.take.ensures.value

pub returns-clause-rest : goal.returns-clause-rest
returns-clause-rest g c =
    let i = c.self.inside in let node = c.link-node in
    shown-removed i.region i.spare i.capacity i.len c.self.invariant c.args.self.now c.self.view_is c.args.slot c.requires node.result node.ensures.0 node.ensures.1 c.take.new.self
    (by_remove i.region node.result c.args.slot.index node.ensures.1 c.unlink.new.self c.unlink.ensures c.set_next.new.self c.take.new.self i.spare c.set_next.ensures c.take.ensures.emptied)

pub returns-clause-gone : goal.returns-clause-gone
returns-clause-gone g c =
    let i = c.self.inside in let node = c.link-node in
    value_at-removed i.region i.spare i.capacity i.len c.self.invariant c.args.self.now c.self.view_is c.args.slot c.requires node.result node.ensures.0 node.ensures.1 c.take.new.self
    (by_remove i.region node.result c.args.slot.index node.ensures.1 c.unlink.new.self c.unlink.ensures c.set_next.new.self c.take.new.self i.spare c.set_next.ensures c.take.ensures.emptied)

pub returns-clause-others : goal.returns-clause-others
returns-clause-others g c =
    let i = c.self.inside in let node = c.link-node in
    value_at-others i.region i.spare i.capacity i.len c.self.invariant c.args.self.now c.self.view_is c.args.slot c.requires node.result node.ensures.0 node.ensures.1 c.take.new.self
    (by_remove i.region node.result c.args.slot.index node.ensures.1 c.unlink.new.self c.unlink.ensures c.set_next.new.self c.take.new.self i.spare c.set_next.ensures c.take.ensures.emptied)
