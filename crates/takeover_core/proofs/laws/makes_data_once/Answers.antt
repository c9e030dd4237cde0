use Rattle.takeover_core.proofs.SessionLaws.{makes_data_once_lem}
use Rattle.takeover_core.proofs.laws.makes_data_once.Goals as goal

pub returns : goal.returns
returns c = record { law = makes_data_once_lem }
