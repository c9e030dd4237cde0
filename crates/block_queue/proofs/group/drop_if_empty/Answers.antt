use Rattle.block_queue.proofs.GroupLemmas.{empty_goes}
use Rattle.block_queue.proofs.group.drop_if_empty.Goals as goal

pub returns-then-len-eq0-clause-same : goal.returns-then-len-eq0-clause-same
returns-then-len-eq0-clause-same g c =
    empty_goes g.B.Block.members _ _ _ _ c.remove.ensures.items c.requires.bound c.index.ensures c.len.ensures.len
    c.if-len-eq0.true
