use Rattle.frames.proofs.StreamLaws.{text_again}
use Rattle.frames.proofs.laws.reads_what_was_written.Goals as goal

pub returns : goal.returns
returns c = record { law = text_again }
