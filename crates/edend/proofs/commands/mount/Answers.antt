-- What the broker over a mount printed before it failed, and which fault is told.
use Rattle.std.proofs.Common.{Result, inr, subst}
use Rattle.broker_process.specs.Mounting.{RunsMount}
use Rattle.broker_process.specs.declared.fault.MountRunFault.{MountRunFault}
use Rattle.edend.proofs.commands.mount.Goals as goal

pub returns-in-Err : goal.returns-in-Err
returns-in-Err g c = λ input file.
    let old = g.W.Write.contents c.args.out in
    let new = g.W.Write.contents c.run_mount-run.result.out in
    let ran = subst (λ (ended : Result (Unit {0}) MountRunFault). RunsMount ended old new) c.in-Err.is c.run_mount-run.ensures.runs in
    record {
      names = c.failure_of_mount.ensures.names;
      told = record { fault = c.in-Err.fault; ran = ran; is_told = c.failure_of_mount.ensures.told };
      first = inr ran;
    }
