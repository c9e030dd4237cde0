use Rattle.std.proofs.Common.{refl}
use Rattle.block_queue.proofs.ListLemmas.{got_at_the_back, removed_in_the_middle, removed_at_the_back}
use Rattle.block_queue.proofs.queue.remove_behind.Goals as goal

pub returns-then-index-in_groups-2-clause-rest : goal.returns-then-index-in_groups-2-clause-rest
returns-then-index-in_groups-2-clause-rest g c =
    removed_in_the_middle _ _ _ _ _ _ refl c.len-in_groups.ensures.len c.len-in_rings.ensures.len
    c.if-index-in_groups.false c.if-index-in_groups-2.true c.remove-then-index-in_groups-2.ensures.rest

pub returns-clause-value : goal.returns-clause-value
returns-clause-value g c =
    got_at_the_back _ _ _ _ _ _ refl c.len-in_groups.ensures.len c.len-in_rings.ensures.len c.if-index-in_groups.false
    c.if-index-in_groups-2.false c.take_out.ensures.value

pub returns-clause-rest : goal.returns-clause-rest
returns-clause-rest g c =
    removed_at_the_back _ _ _ _ _ _ refl c.len-in_groups.ensures.len c.len-in_rings.ensures.len
    c.if-index-in_groups.false c.if-index-in_groups-2.false c.take_out.ensures.rest
