use Rattle.std.proofs.Common.{length}
use Rattle.inode_map.proofs.Pruning.{Going}
use Rattle.inode_map.proofs.inode_map.drop_upwards.Given as goal

-- what was struck so far, and one number alone is of no use
abbrev pub invariant-loop-parent : goal.invariant-loop-parent
invariant-loop-parent l = Going l.fn.table l.table l.fn.loaded l.loaded l.number.0

abbrev pub decreases-loop-parent : goal.decreases-loop-parent
decreases-loop-parent l = length l.table.entries
