-- What the rows of the command's matches name.
use Rattle.std.proofs.Common.{ap, ◌∙◌, codes}
use Rattle.clap.specs.Words.{found_of}
use Rattle.clap.proofs.WalkLemmas.{first_value-rows}
use Rattle.command_line.proofs.CommandLemmas.{text_or}
use Rattle.command_line.proofs.asked.commit_in.Goals as goal

pub returns : goal.returns
returns c = record {
  commit = ap (λ s. s.now) c.unwrap_or.ensures
      ∙ text_or _ _ _ (c.get_str.ensures ∙ first_value-rows (found_of c.args.daemon.now) (codes "MANIFEST"));
}
