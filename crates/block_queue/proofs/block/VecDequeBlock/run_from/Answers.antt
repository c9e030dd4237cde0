use Rattle.std.proofs.Common.{◌∙◌}
use Rattle.block_queue.proofs.ListLemmas.{all_of_a_run, behind_the_front}
use Rattle.block_queue.proofs.block.VecDequeBlock.run_from.Goals as goal

pub returns-clause-run : goal.returns-clause-run
returns-clause-run g c =
    all_of_a_run (c.behind.ensures.behind
    ∙ behind_the_front _ _ _ c.as_slices.ensures.items c.if-index-front.false)
