-- What the index has for a place is the file of its line.
use Rattle.std.specs.FinMap.{get}
use Rattle.manifest.specs.Places.{standing_of}
use Rattle.manifest.specs.Tree.{links_from}
use Rattle.manifest.proofs.PlaceLaws.{file-told, same_lines-know}
use Rattle.manifest.proofs.lines.Lines.child.Goals as goal

pub returns : goal.returns
returns c =
    rw (← c.self.view_is) (file-told (get (links_from 2 c.self.inside.lines.items) (c.args.dir.0, c.args.name.now)) c.map.result c.get.result
    (c.get.ensures.number (standing_of c.self.inside.lines.items) c.self.invariant.1 (same_lines-know c.self.inside.lines.items c.as_slice.result.now c.as_slice.ensures.value)) c.map.ensures.cases)
