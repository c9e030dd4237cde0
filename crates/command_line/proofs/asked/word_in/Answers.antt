-- What the rows of the command's matches name.
use Rattle.std.proofs.Common.{ap, ◌∙◌}
use Rattle.clap.specs.Words.{found_of}
use Rattle.clap.proofs.WalkLemmas.{first_value-rows}
use Rattle.command_line.proofs.CommandLemmas.{text_or}
use Rattle.command_line.proofs.asked.word_in.Goals as goal

pub returns : goal.returns
returns c =
    ap (λ s. s.now) c.unwrap_or.ensures
    ∙ text_or _ _ _ (c.get_str.ensures ∙ first_value-rows (found_of c.args.matches.now) c.args.place.now)
