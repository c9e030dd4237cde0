-- What the rows of the command's matches name.
use Rattle.std.proofs.Common.{ap, ◌∙◌, codes, Option, unwrap_or}
use Rattle.clap.specs.Words.{Text, found_of}
use Rattle.clap.proofs.WalkLemmas.{first_value-rows}
use Rattle.command_line.specs.CommandLine.{number_or}
use Rattle.command_line.proofs.asked.daemon_in.Goals as goal

pub returns-clause-words : goal.returns-clause-words
returns-clause-words c = record {
  start = c.in_ok-start.ensures.start;
  broker = c.word_in.ensures;
  takeover = c.word_in-2.ensures;
  manifest = c.word_in-3.ensures;
  workers = c.number_or.ensures ∙ ap (number_or 2) (c.get_str.ensures ∙ first_value-rows (found_of c.args.daemon.now) (codes "workers"));
  limit = c.number_or-2.ensures ∙ ap (number_or 1024) (c.get_str-2.ensures ∙ first_value-rows (found_of c.args.daemon.now) (codes "limit"));
  patience = c.number_or-3.ensures ∙ ap (number_or 2000) (c.get_str-3.ensures ∙ first_value-rows (found_of c.args.daemon.now) (codes "patience"));
  until_closed = c.has_flag.ensures;
  files = c.word_in-4.ensures;
  git = c.word_in-5.ensures;
  commit = c.commit_in.ensures.commit;
  cache = c.number_or-4.ensures ∙ ap (number_or 256) (c.get_str-4.ensures ∙ first_value-rows (found_of c.args.daemon.now) (codes "cache"));
}
