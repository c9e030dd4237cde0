-- The words that were had, and the ending by which all else goes.
use Rattle.std.proofs.Common.{refl}
use Rattle.world_script.specs.ProgramEnd.{EndsBy, known_of, words_had}
use Rattle.world_script.proofs.ServerCommands.{ends_by-from, ends_by-no_memory}
use Rattle.world_script.proofs.ProcessLemmas.{ends_with, ends_with-map, words_are}
use Rattle.world_script.proofs.process.run_process.Goals as goal

pub returns : goal.returns
returns g c =
    let had = words_had c.words-words.result in
    let input = g.P.Sources.input_bytes c.args.process.now in
    let file = g.P.Sources.file_bytes c.args.process.now in
    let before = g.P.Process.output_bytes c.args.process.now in
    record {
      runs = record {
        had = had;
        are = words_are c.words-words.result _ c.words-words.ensures.words;
        ends = ends_with g.P.Output.Write.contents (λ after ending. EndsBy had input file (known_of g.D.CommandHandler.ends c.args.handler.now c.run_program-output.new.handler) before after ending) _ _ c.run_program-output.result.1 _ _ _ _ _
            (ends_by-from had input file _ before _ _ _ c.in-Ok.ensures.gathers c.run_program-output.ensures.ends)
            c.leave.ensures.output c.errors.ensures.bytes c.leave.ensures.status c.leave.ensures.says;
      };
    }

pub returns-in-Err : goal.returns-in-Err
returns-in-Err g c = record {
  runs = record {
    had = words_had c.words-words.result;
    are = words_are c.words-words.result _ c.words-words.ensures.words;
    ends = ends_with-map (λ ending told. ends_by-no_memory (words_had c.words-words.result) _ _ _ _ _ ending told refl) c.in-Err.ensures.no_memory;
  };
}
