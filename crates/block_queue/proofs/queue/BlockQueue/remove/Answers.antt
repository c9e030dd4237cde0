use Rattle.std.proofs.Common.{slice_get, remove, ap, ◌∙◌}
use Rattle.block_queue.specs.Groups.{in_group, in_groups}
use Rattle.block_queue.proofs.ListLemmas.{got_behind, removed_behind, removed_before_the_back}
use Rattle.block_queue.proofs.queue.BlockQueue.remove.Goals as goal

pub returns-then-index-in_front-clause-rest : goal.returns-then-index-in_front-clause-rest
returns-then-index-in_front-clause-rest g c =
    let old = c.self.inside in
    let new = c.remove_front.new in
    removed_before_the_back old.front.items (in_groups old.groups) (in_group old.rings) old.back.items new.front.items
    (in_groups new.groups) (in_group new.rings) c.len-in_front.result c.args.index (ap (λ q. q.members) c.self.view_is)
    (c.len-in_front.ensures ∙ old.front.ok.0) c.if-index-in_front.true c.remove_front.ensures.rest

pub returns-clause-value : goal.returns-clause-value
returns-clause-value g c =
    got_behind _ _ _ _ (c.len-in_front.ensures ∙ c.self.inside.front.ok.0) c.if-index-in_front.false
    c.remove_behind.ensures.value
    ∙ ap (λ q. slice_get q.members c.args.index) c.self.view_is

pub returns-clause-rest : goal.returns-clause-rest
returns-clause-rest g c =
    removed_behind _ _ _ _ (c.len-in_front.ensures ∙ c.self.inside.front.ok.0) c.if-index-in_front.false
    c.remove_behind.ensures.rest
    ∙ ap (λ q. remove q.members c.args.index) c.self.view_is
