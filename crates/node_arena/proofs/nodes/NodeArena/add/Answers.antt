use Rattle.std.proofs.Common.{◌+◌, refl, sym, ap, ◌∙◌}
use Rattle.node_arena.specs.Arena.{value_at, with_first}
use Rattle.node_arena.specs.Recency.{shown}
use Rattle.node_arena.proofs.Calls.{by_add}
use Rattle.node_arena.proofs.Entries.{slot_at}
use Rattle.node_arena.proofs.Held.{length_here, capacity_here}
use Rattle.node_arena.proofs.Shown.{placed-same, place_of-same}
use Rattle.node_arena.proofs.Steps.{empty_first, fresh_first, whole-added, shown-added, value_at-added}
use Rattle.node_arena.proofs.nodes.NodeArena.add.Goals as goal

pub returns-then-self-clause-full : goal.returns-then-self-clause-full
returns-then-self-clause-full g c =
    let i = c.self.inside in
    let long = length_here i.region i.spare i.capacity i.len c.self.invariant c.args.self.now c.self.view_is in
    (λ _. sym long ∙ c.if-self.true ∙ capacity_here i.region i.spare i.capacity i.len c.self.invariant c.args.self.now c.self.view_is, λ _. refl)

pub put-requires : goal.put-requires
put-requires g c =
    let i = c.self.inside in let r1 = c.link_after.new.self in let b = c.link_after.ensures in
    let none = empty_first i.region i.spare i.capacity i.len c.self.invariant c.args.self.now c.self.view_is c.if-self.false in
    (b.laid_out, placed-same i.region r1 i.spare b.block c.self.invariant.placed, (λ j. b.value j (place_of-same i.region r1 i.spare b.block j)) ∙ none)

pub invariant_of-self : goal.invariant_of-self
invariant_of-self g c =
    let i = c.self.inside in let next = c.next-self-inside in let start = c.link-start in
    whole-added i.region i.spare i.capacity i.len c.self.invariant c.args.self.now c.self.view_is c.if-self.false c.args.item next.result next.ensures.0 next.ensures.1 c.put.new.self
    (by_add i.region i.spare _ refl c.link_after.new.self c.put.new.self start.result c.args.item start.ensures.1 c.link_after.ensures c.put.ensures)

pub returns-clause-full : goal.returns-clause-full
returns-clause-full g c =
    let i = c.self.inside in
    let long = length_here i.region i.spare i.capacity i.len c.self.invariant c.args.self.now c.self.view_is in
    let most = capacity_here i.region i.spare i.capacity i.len c.self.invariant c.args.self.now c.self.view_is in
    (λ h. cc, λ h. absurd (c.if-self.false (long ∙ h ∙ sym most)))

pub returns-clause-fresh : goal.returns-clause-fresh
returns-clause-fresh g c =
    let i = c.self.inside in let start = c.link-start in
    let b = by_add i.region i.spare _ refl c.link_after.new.self c.put.new.self start.result c.args.item start.ensures.1 c.link_after.ensures c.put.ensures in
    let at = c.index.ensures ∙ place_of-same i.region c.put.new.self i.spare b.block in
    ap (λ k. value_at c.args.self.now (slot_at k)) at ∙ fresh_first i.region i.spare i.capacity i.len c.self.invariant c.args.self.now c.self.view_is c.if-self.false

pub returns-clause-first : goal.returns-clause-first
returns-clause-first g c =
    let i = c.self.inside in let next = c.next-self-inside in let start = c.link-start in
    let b = by_add i.region i.spare _ refl c.link_after.new.self c.put.new.self start.result c.args.item start.ensures.1 c.link_after.ensures c.put.ensures in
    let at = c.index.ensures ∙ place_of-same i.region c.put.new.self i.spare b.block in
    shown-added i.region i.spare i.capacity i.len c.self.invariant c.args.self.now c.self.view_is c.if-self.false c.args.item next.result next.ensures.0 next.ensures.1 c.put.new.self b
    ∙ ap (λ k. with_first c.args.self.now (slot_at k) c.args.item) (sym at)

pub returns-clause-value : goal.returns-clause-value
returns-clause-value g c =
    let i = c.self.inside in let next = c.next-self-inside in let start = c.link-start in
    let b = by_add i.region i.spare _ refl c.link_after.new.self c.put.new.self start.result c.args.item start.ensures.1 c.link_after.ensures c.put.ensures in
    let at = c.index.ensures ∙ place_of-same i.region c.put.new.self i.spare b.block in
    ap (λ k. value_at (shown c.put.new.self i.capacity (i.len + 1)) (slot_at k)) at
    ∙ value_at-added i.region i.spare i.capacity i.len c.self.invariant c.args.self.now c.self.view_is c.if-self.false c.args.item next.result next.ensures.0 next.ensures.1 c.put.new.self b
