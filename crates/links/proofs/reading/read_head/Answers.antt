use Rattle.links.proofs.ReadingLaws.{few_fault}
use Rattle.links.proofs.reading.read_head.Goals as goal

pub returns-in_default-clause-head : goal.returns-in_default-clause-head
returns-in_default-clause-head g c = few_fault _ _ c.in_default.ensures.refused.1
