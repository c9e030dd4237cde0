use Rattle.std.proofs.Common.{◌≡◌, take}
use Rattle.std.specs.List.{concat}
use Rattle.map_image.proofs.part_reader.read_each.Given as goal

-- the reader took the parts so far
abbrev pub invariant-loop-part : goal.invariant-loop-part
invariant-loop-part l = l.reader ≡ concat (take l.part-index l.parts)
