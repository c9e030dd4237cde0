use Rattle.map_image.specs.Feeding.{Extends}
use Rattle.map_image.specs.ImageReading.{entry_at}
use Rattle.map_image.specs.Usage.{HasParents}
use Rattle.map_image.proofs.Loop.{IsSoFar}
use Rattle.map_image.proofs.list_reader.more_entries.Given as goal

abbrev pub invariant-loop-i : goal.invariant-loop-i
invariant-loop-i l =
    IsSoFar (entry_at l.form) l.fn.entries.items l.left l.bytes l.entries.items l.i l.rest
    × Extends l.fn.parents.items l.parents.items
    × (HasParents l.fn.entries.items l.fn.parents.items → HasParents l.entries.items l.parents.items)
