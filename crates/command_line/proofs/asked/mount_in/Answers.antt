-- What the rows of the command's matches name.
use Rattle.std.proofs.Common.{ap, ◌∙◌, codes}
use Rattle.clap.specs.Words.{found_of}
use Rattle.clap.proofs.WalkLemmas.{first_value-rows}
use Rattle.command_line.specs.CommandLine.{number_or}
use Rattle.command_line.proofs.asked.mount_in.Goals as goal

pub returns-clause-words : goal.returns-clause-words
returns-clause-words c = record {
  mountpoint = c.word_in.ensures;
  socket = c.word_in-2.ensures;
  held = c.word_in-3.ensures;
  owner = c.in_ok-owner.ensures.owner;
  valid = c.number_or.ensures ∙ ap (number_or 86400) (c.get_str.ensures ∙ first_value-rows (found_of c.args.mount.now) (codes "valid"));
}
