use Rattle.frames.proofs.PartingLaws.{pieces_join}
use Rattle.frames.proofs.laws.pieces_join.Goals as goal

pub returns : goal.returns
returns c = record { law = pieces_join }
