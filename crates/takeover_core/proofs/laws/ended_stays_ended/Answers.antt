use Rattle.takeover_core.proofs.SessionLaws.{ended_stays_ended_lem}
use Rattle.takeover_core.proofs.laws.ended_stays_ended.Goals as goal

pub returns : goal.returns
returns c = record { law = ended_stays_ended_lem }
