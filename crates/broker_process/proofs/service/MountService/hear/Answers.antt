use Rattle.broker_desk.specs.declared.progress.Progress.{Progress}
use Rattle.broker_process.proofs.ServingSteps.{heard_before}
use Rattle.broker_process.proofs.service.MountService.hear.Goals as goal

pub hear_kernel-requires : goal.hear_kernel-requires
hear_kernel-requires g c = record { for_daemons = c.loop.invariant.0 }

pub loop-preserved : goal.loop-preserved
loop-preserved g c =
    let heard = c.in-Leaves.ensures in
    (heard.for_daemons, λ (end : Progress). λ rest. c.loop.invariant.1 end (heard_before c.loop.left c.in-Leaves.message end heard.heard rest))
