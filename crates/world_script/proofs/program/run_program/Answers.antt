-- The end of the words stays what it is once all is written.
use Rattle.world_script.specs.ProgramEnd.{words_had}
use Rattle.world_script.proofs.ServerCommands.{ends_by-finished}
use Rattle.world_script.proofs.program.run_program.Goals as goal

pub returns : goal.returns
returns g c = record { ends = ends_by-finished (words_had c.args.words.now) _ _ _ _ _ _ _ _ c.run_had-ending.ensures c.finish.ensures.finishes }
