use Rattle.frames.proofs.SaysLaws.{says_what_is_read}
use Rattle.frames.proofs.laws.says_what_is_read.Goals as goal

pub returns : goal.returns
returns c = record { law = says_what_is_read }
