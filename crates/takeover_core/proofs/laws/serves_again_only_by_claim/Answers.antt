use Rattle.takeover_core.proofs.OutLaws.{serves_again_only_by_claim_lem}
use Rattle.takeover_core.proofs.laws.serves_again_only_by_claim.Goals as goal

pub returns : goal.returns
returns c = record { law = serves_again_only_by_claim_lem }
