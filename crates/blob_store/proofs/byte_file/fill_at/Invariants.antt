use Rattle.std.proofs.Common.{◌≤◌, length}
use Rattle.blob_store.specs.ByteFile.{Holds}
use Rattle.blob_store.proofs.byte_file.fill_at.Given as goal

abbrev pub invariant-loop-read : goal.invariant-loop-read
invariant-loop-read g l = (l.held ≤ length l.room) × Holds (g.F.ByteFile.contents l.file) l.offset l.held l.room
