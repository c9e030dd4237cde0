use Rattle.takeover_core.proofs.Leaving.{can_be_left_lem}
use Rattle.takeover_core.proofs.laws.can_be_left.Goals as goal

pub returns : goal.returns
returns c = record { law = can_be_left_lem }
