use Rattle.frames.proofs.EndLaws.{one_end}
use Rattle.frames.proofs.laws.ends_one_way.Goals as goal

pub returns : goal.returns
returns c = record { law = λ bytes end other first second. one_end first second }
