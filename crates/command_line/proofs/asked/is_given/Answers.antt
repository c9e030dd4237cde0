-- What the rows of the command's matches have.
use Rattle.std.proofs.Common.{ap, ◌∙◌}
use Rattle.clap.specs.Words.{found_of}
use Rattle.clap.proofs.WalkLemmas.{first_value-rows}
use Rattle.command_line.proofs.CommandLemmas.{text_there}
use Rattle.command_line.proofs.asked.is_given.Goals as goal

pub returns : goal.returns
returns c = record {
  given = c.is_some.ensures ∙ text_there _ _ (c.get_str.ensures ∙ first_value-rows (found_of c.args.matches.now) c.args.place.now);
}
