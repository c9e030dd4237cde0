use Rattle.std.proofs.Common.{refl, sym, ap, ◌∙◌, subst}
use Rattle.std.specs.Prelude.{IsSome}
use Rattle.node_arena.specs.Region.{place_of, value_of}
use Rattle.node_arena.proofs.Held.{value_here, item_here, index_here}
use Rattle.node_arena.proofs.Steps.{whole-valued, shown-valued}
use Rattle.node_arena.proofs.nodes.NodeArena.get_mut.Goals as goal

pub link-lent-requires : goal.link-lent-requires
link-lent-requires g c = let i = c.self.inside in (c.self.invariant.laid_out, index_here i.region i.spare i.capacity i.len c.self.invariant c.args.self.now c.self.view_is c.args.slot c.requires)

pub value_mut-requires : goal.value_mut-requires
value_mut-requires g c =
    let i = c.self.inside in let there = item_here i.region i.spare i.capacity i.len c.self.invariant c.args.self.now c.self.view_is c.args.slot c.requires in
    (c.self.invariant.laid_out, c.link-lent.ensures.0, subst (λ k. IsSome (value_of i.region k)) (sym c.link-lent.ensures.1) there)

pub invariant_of-self-lent : goal.invariant_of-self-lent
invariant_of-self-lent g c w =
    let i = c.self.inside in let at = place_of i.region c.link-lent.result in
    whole-valued i.region i.spare i.capacity i.len c.self.invariant c.args.self.now c.self.view_is c.args.slot c.requires at c.link-lent.ensures.1 w

pub returns : goal.returns
returns g c =
    let i = c.self.inside in let at = place_of i.region c.link-lent.result in
    let is = value_here i.region i.spare i.capacity i.len c.self.invariant c.args.self.now c.self.view_is c.args.slot in (
      (refl, λ w. shown-valued i.region i.spare i.capacity i.len c.self.invariant c.args.self.now c.self.view_is c.args.slot c.requires at c.link-lent.ensures.1 w),
      record { writes_back = tt; value = is ∙ ap (value_of i.region) (sym c.link-lent.ensures.1) ∙ c.value_mut.ensures.value },
    )
