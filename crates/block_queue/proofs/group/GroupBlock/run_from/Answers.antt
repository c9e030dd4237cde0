use Rattle.block_queue.proofs.GroupLemmas.{run_of_a_block}
use Rattle.block_queue.proofs.group.GroupBlock.run_from.Goals as goal

pub returns-clause-run : goal.returns-clause-run
returns-clause-run g c =
    let found = c.find-at in
    run_of_a_block g.B.Block.members _ _ _ _ _ c.as_slice.ensures.value c.index.ensures found.ensures.bound
    found.ensures.before found.ensures.inside c.run_from.ensures.run
