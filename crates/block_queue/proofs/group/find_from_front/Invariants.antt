use Rattle.std.proofs.Common.{◌≡◌, ◌+◌, length, take, flat_map}
use Rattle.block_queue.proofs.group.find_from_front.Given as goal

abbrev pub invariant-loop-at : goal.invariant-loop-at
invariant-loop-at g l = length (flat_map g.B.Block.members (take l.at l.blocks)) + l.rest ≡ l.index
