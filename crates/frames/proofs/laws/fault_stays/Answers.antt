use Rattle.frames.proofs.PartingLaws.{fault_stays}
use Rattle.frames.proofs.laws.fault_stays.Goals as goal

pub returns : goal.returns
returns c = record { law = fault_stays }
