use Rattle.std.proofs.Common.{length, take, drop, ap, ◌∙◌}
use Rattle.block_queue.proofs.ListLemmas.{run_behind}
use Rattle.block_queue.proofs.queue.BlockQueue.run_from.Goals as goal

pub returns-clause-run : goal.returns-clause-run
returns-clause-run g c =
    run_behind _ _ _ _ (c.len-in_front.ensures ∙ c.self.inside.front.ok.0) c.if-index-in_front.false
    c.run_behind.ensures.run
    ∙ ap (λ q. take (length c.run_behind.result.now) (drop c.args.index q.members)) c.self.view_is
