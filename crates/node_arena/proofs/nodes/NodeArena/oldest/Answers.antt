use Rattle.std.proofs.Common.{Some, subst, sym, ap, ◌∙◌}
use Rattle.node_arena.specs.Arena.{IsHeld}
use Rattle.node_arena.specs.Region.{prev_of}
use Rattle.node_arena.proofs.Entries.{slot_at}
use Rattle.node_arena.proofs.Held.{oldest_some, oldest_held}
use Rattle.node_arena.proofs.nodes.NodeArena.oldest.Goals as goal

pub returns-clause-last : goal.returns-clause-last
returns-clause-last g c =
    let i = c.self.inside in let at = c.index.ensures ∙ c.prev-last.ensures.1 ∙ ap (prev_of i.region) c.link.ensures.1 in
    ap (λ k. Some (slot_at k)) at ∙ sym (oldest_some i.region i.spare i.capacity i.len c.self.invariant c.args.self.now c.self.view_is c.if-self-eq0.false)

pub returns-clause-held : goal.returns-clause-held
returns-clause-held g c =
    let i = c.self.inside in let at = c.index.ensures ∙ c.prev-last.ensures.1 ∙ ap (prev_of i.region) c.link.ensures.1 in
    subst (λ k. IsHeld c.args.self.now (slot_at k)) (sym at) (oldest_held i.region i.spare i.capacity i.len c.self.invariant c.args.self.now c.self.view_is c.if-self-eq0.false)
