-- The line has the cause as it was rendered.
use Rattle.world_script.proofs.ProgramEndLemmas.{complains-of}
use Rattle.world_script.proofs.complaint.complain.Goals as goal

pub returns : goal.returns
returns g c = complains-of _ _ _ _ _ c.write_line.ensures
