use Rattle.std.proofs.Common.{take}
use Rattle.map_image.specs.ImageText.{link_text, FitsLink}
use Rattle.map_image.proofs.Members.{ArePut}
use Rattle.map_image.proofs.member_writer.put_each_link.Given as goal

abbrev pub invariant-loop-link : goal.invariant-loop-link
invariant-loop-link l = ArePut link_text FitsLink l.initial.out l.out (take l.link-index l.links)
