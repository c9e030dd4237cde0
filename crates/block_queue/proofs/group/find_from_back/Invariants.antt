use Rattle.std.proofs.Common.{◌≡◌, ◌<◌, ◌≤◌, length, take, flat_map}
use Rattle.block_queue.proofs.group.find_from_back.Given as goal

-- the blocks before those that were passed over have so many members, and the one that is looked for
abbrev pub invariant-loop-at : goal.invariant-loop-at
invariant-loop-at g l = record {
  within : l.at ≤ length l.blocks;
  begin : l.begin ≡ length (flat_map g.B.Block.members (take l.at l.blocks));
  past : l.index < l.begin;
}

-- the blocks that were not passed over
abbrev pub decreases-loop-at : goal.decreases-loop-at
decreases-loop-at g l = l.at
