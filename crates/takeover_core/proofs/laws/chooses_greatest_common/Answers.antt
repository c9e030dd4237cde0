use Rattle.takeover_core.proofs.VersionLaws.{chooses_greatest_common_lem}
use Rattle.takeover_core.proofs.laws.chooses_greatest_common.Goals as goal

pub returns : goal.returns
returns c = record { law = chooses_greatest_common_lem }
