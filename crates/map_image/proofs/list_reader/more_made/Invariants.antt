use Rattle.map_image.specs.ImageReading.{made_at}
use Rattle.map_image.proofs.Loop.{IsSoFar}
use Rattle.map_image.proofs.list_reader.more_made.Given as goal

abbrev pub invariant-loop-i : goal.invariant-loop-i
invariant-loop-i l = IsSoFar made_at l.fn.files.items l.left l.bytes l.files.items l.i l.rest
