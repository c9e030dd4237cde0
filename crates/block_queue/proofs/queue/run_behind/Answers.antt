use Rattle.std.proofs.Common.{refl}
use Rattle.block_queue.proofs.ListLemmas.{run_in_the_middle, run_at_the_back}
use Rattle.block_queue.proofs.queue.run_behind.Goals as goal

pub returns-then-index-in_groups-2-clause-run : goal.returns-then-index-in_groups-2-clause-run
returns-then-index-in_groups-2-clause-run g c =
    run_in_the_middle _ _ _ _ _ _ refl c.len-in_groups.ensures.len c.len-in_rings.ensures.len c.if-index-in_groups.false
    c.if-index-in_groups-2.true c.run_from-then-index-in_groups-2.ensures.run

pub returns-clause-run : goal.returns-clause-run
returns-clause-run g c =
    run_at_the_back _ _ _ _ _ _ refl c.len-in_groups.ensures.len c.len-in_rings.ensures.len c.if-index-in_groups.false
    c.if-index-in_groups-2.false c.run_from-2.ensures.run
