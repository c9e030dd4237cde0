use Rattle.std.proofs.Common.{◌≡◌, sym, ap, ◌∙◌, arith}
use Rattle.std.specs.Prelude.{is_some}
use Rattle.node_arena.specs.Arena.{value_at}
use Rattle.node_arena.specs.Region.{value_of}
use Rattle.node_arena.proofs.Held.{value_here, index_here}
use Rattle.node_arena.proofs.nodes.NodeArena.is_held.Goals as goal

pub returns-then-slot-self : goal.returns-then-slot-self
returns-then-slot-self g c = let i = c.self.inside in record {
  held = (
    λ h. cc,
    λ h. let low = index_here i.region i.spare i.capacity i.len c.self.invariant c.args.self.now c.self.view_is c.args.slot h in
        let count = c.self.invariant.count in let past = c.if-slot-self.true in absurd (omega arith),
  );
}

pub returns : goal.returns
returns g c =
    let i = c.self.inside in let is = value_here i.region i.spare i.capacity i.len c.self.invariant c.args.self.now c.self.view_is c.args.slot in
    let same : c.is_held.result ≡ is_some (value_at c.args.self.now c.args.slot) = c.is_held.ensures ∙ ap (λ k. is_some (value_of i.region k)) c.link.ensures.1 ∙ ap is_some (sym is) in
    record { held = (λ h. sym same ∙ h, λ h. same ∙ h) }
