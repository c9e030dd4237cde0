use Rattle.frames.proofs.PartedLaws.{a_parting}
use Rattle.frames.proofs.laws.has_a_parting.Goals as goal

pub returns : goal.returns
returns c = record { law = a_parting }
