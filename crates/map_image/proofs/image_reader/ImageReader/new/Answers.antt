use Rattle.map_image.proofs.FedLaws.{opened_reader}
use Rattle.map_image.proofs.image_reader.ImageReader.new.Goals as goal

pub invariant_of-result : goal.invariant_of-result
invariant_of-result c = opened_reader c.new-2.result c.new.result.bytes c.new-3.result.items c.new.ensures c.new-3.ensures.items c.new-2.ensures.stage c.new-2.ensures.lists c.new-2.ensures.parents
