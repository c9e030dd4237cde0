-- How the server command ended is how the program ends.
use Rattle.world_script.proofs.ServerCommands.{runs_command}
use Rattle.world_script.proofs.program.run_command.Goals as goal

pub returns : goal.returns
returns g c = runs_command _ _ c.run-ran.result _ _ _ c.end_after.result c.run-ran.ensures.ends c.end_after.ensures.ends
