-- The script was played, or there was no memory to gather what is printed.
use Rattle.std.proofs.Common.{inr}
use Rattle.world_script.proofs.ProcessLemmas.{ends_with-map}
use Rattle.edend.proofs.CommandLemmas.{runs_over}
use Rattle.edend.proofs.commands.play.Goals as goal

pub returns-in-Err : goal.returns-in-Err
returns-in-Err g c = ends_with-map (λ ending told. inr told) c.in-Err.ensures.no_memory

pub returns : goal.returns
returns g c = runs_over _ _ _ c.broker-out.result.ended _ _ _ _ _ _ _ _ _ c.broker-out.ensures c.in-Ok.ensures.gathers c.errors.ensures.bytes c.end_command.ensures.ends
