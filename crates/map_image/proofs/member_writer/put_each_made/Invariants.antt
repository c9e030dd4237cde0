use Rattle.std.proofs.Common.{take}
use Rattle.map_image.specs.ImageText.{made_text, FitsMade}
use Rattle.map_image.proofs.Members.{ArePut}
use Rattle.map_image.proofs.member_writer.put_each_made.Given as goal

abbrev pub invariant-loop-made : goal.invariant-loop-made
invariant-loop-made l = ArePut made_text FitsMade l.initial.out l.out (take l.made-index l.files)
