-- A fault of the script is told.
use Rattle.world_script.proofs.ProgramEndLemmas.{ends-failed}
use Rattle.world_script.proofs.program.run_named.Goals as goal

pub returns-in-Err : goal.returns-in-Err
returns-in-Err g c =
    ends-failed c.args.path.now _ _ _ _ _ _ _ _ c.of_run.ensures.fault c.in-Err.ensures.refused (c.of_run.ensures.name c.in-Err.ensures.caused) c.in-Err.ensures.unwritten c.tell.ensures.tells
