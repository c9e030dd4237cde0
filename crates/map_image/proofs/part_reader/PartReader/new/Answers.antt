use Rattle.std.proofs.Common.{ap}
use Rattle.std.specs.List.{concat}
use Rattle.map_image.proofs.PartReaderLaws.{opened_part_reader}
use Rattle.map_image.proofs.part_reader.PartReader.new.Goals as goal

pub invariant_of-result : goal.invariant_of-result
invariant_of-result c = opened_part_reader c.new-2.result (concat c.new.result.items) c.new-3.result.items (ap concat c.new.ensures.items) c.new-3.ensures.items c.new-2.ensures.stage c.new-2.ensures.lists c.new-2.ensures.parents
