-- Words that could not be had are refused, whatever path they would name.
use Rattle.std.proofs.Common.{ap, refl, subst, sym}
use Rattle.command_line.specs.CommandLine.{standard_input}
use Rattle.world_script.specs.ProgramEnd.{EndsBy, Had, known_of, words_had}
use Rattle.world_script.specs.Source.{script_at}
use Rattle.world_script.proofs.ServerCommands.{ends_by-unread}
use Rattle.world_script.proofs.program.run_had.Goals as goal

pub returns-in-Err : goal.returns-in-Err
returns-in-Err g c =
    let input = g.S.Sources.input_bytes c.args.sources.now in
    let file = g.S.Sources.file_bytes c.args.sources.now in
    let handler = known_of g.D.CommandHandler.ends c.args.handler.now c.args.handler.now in
    subst (λ (had : Had). EndsBy had input file handler (g.W.Write.contents c.args.out.now) (g.W.Write.contents c.refuse_words.new.out) c.refuse_words.result) (sym (ap words_had c.in-Err.is))
    (ends_by-unread _ input file handler _ _ _ (c.refuse_words.ensures standard_input (script_at input file standard_input) 1024) refl)
