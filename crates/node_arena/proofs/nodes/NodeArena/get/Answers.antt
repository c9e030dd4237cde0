use Rattle.std.proofs.Common.{sym, ap, ◌∙◌, subst}
use Rattle.std.specs.Prelude.{IsSome}
use Rattle.node_arena.specs.Region.{value_of}
use Rattle.node_arena.proofs.Held.{value_here, item_here, index_here}
use Rattle.node_arena.proofs.nodes.NodeArena.get.Goals as goal

pub link-requires : goal.link-requires
link-requires g c = let i = c.self.inside in (c.self.invariant.laid_out, index_here i.region i.spare i.capacity i.len c.self.invariant c.args.self.now c.self.view_is c.args.slot c.requires)

pub value-requires : goal.value-requires
value-requires g c =
    let i = c.self.inside in let there = item_here i.region i.spare i.capacity i.len c.self.invariant c.args.self.now c.self.view_is c.args.slot c.requires in
    (c.self.invariant.laid_out, c.link.ensures.0, subst (λ k. IsSome (value_of i.region k)) (sym c.link.ensures.1) there)

pub returns : goal.returns
returns g c =
    let i = c.self.inside in let is = value_here i.region i.spare i.capacity i.len c.self.invariant c.args.self.now c.self.view_is c.args.slot in
    record { value = is ∙ ap (value_of i.region) (sym c.link.ensures.1) ∙ c.value.ensures }
