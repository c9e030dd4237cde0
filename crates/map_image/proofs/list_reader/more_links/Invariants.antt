use Rattle.map_image.specs.ImageReading.{link_at}
use Rattle.map_image.proofs.Loop.{IsSoFar}
use Rattle.map_image.proofs.list_reader.more_links.Given as goal

abbrev pub invariant-loop-i : goal.invariant-loop-i
invariant-loop-i l = IsSoFar link_at l.fn.links.items l.left l.bytes l.links.items l.i l.rest
