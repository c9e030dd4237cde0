use Rattle.frames.proofs.PartingLaws.{one_parting}
use Rattle.frames.proofs.laws.has_one_parting.Goals as goal

pub returns : goal.returns
returns c = record { law = one_parting }
