-- What is listed so far, and that more may follow.
use Rattle.std.proofs.Common.{◌-◌, length}
use Rattle.fuse_ops.proofs.Filling.{Filling}
use Rattle.fuse_ops.proofs.served.Served.fill.Given as goal

abbrev pub invariant-loop-entry : goal.invariant-loop-entry
invariant-loop-entry l = Filling l.self l.dir.file l.fn.offset l.fn.listing.room l.from l.listing

abbrev pub decreases-loop-entry : goal.decreases-loop-entry
decreases-loop-entry l = l.listing.room - length l.listing.bytes
