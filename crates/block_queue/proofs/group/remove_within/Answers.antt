use Rattle.block_queue.proofs.GroupLemmas.{stands_among_all, left_of_all}
use Rattle.block_queue.proofs.group.remove_within.Goals as goal

pub returns-clause-value : goal.returns-clause-value
returns-clause-value g c =
    stands_among_all g.B.Block.members _ _ _ _ c.requires.bound c.index_mut.ensures.value
    (c.requires.inside c.index_mut.result.now) c.remove.ensures.value

pub returns-clause-rest : goal.returns-clause-rest
returns-clause-rest g c =
    left_of_all g.B.Block.members _ _ _ _ _ c.requires.bound c.index_mut.ensures.value
    (c.requires.inside c.index_mut.result.now) c.remove.ensures.rest
