use Rattle.takeover_core.proofs.SeatLaws.{serves_only_where_given_lem}
use Rattle.takeover_core.proofs.laws.serves_only_where_given.Goals as goal

pub returns : goal.returns
returns c = record { law = serves_only_where_given_lem }
