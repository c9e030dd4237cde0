use Rattle.takeover_core.proofs.OutLaws.{gone_for_good_lem}
use Rattle.takeover_core.proofs.laws.gone_for_good.Goals as goal

pub returns : goal.returns
returns c = record { law = gone_for_good_lem }
