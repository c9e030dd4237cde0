use Rattle.frames.proofs.PartingLaws.{frames_join}
use Rattle.frames.proofs.laws.frames_join.Goals as goal

pub returns : goal.returns
returns c = record { law = frames_join }
