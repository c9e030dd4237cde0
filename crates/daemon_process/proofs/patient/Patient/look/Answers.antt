use Rattle.std.proofs.Common.{◌∙◌, refl}
use Rattle.daemon_process.specs.Patience.{Not, Longer}
use Rattle.daemon_process.proofs.patient.Patient.look.Goals as goal

-- nothing was looked for yet
pub loop-again-init : goal.loop-again-init
loop-again-init g c = (Not, refl, λ tells. refl)

-- one more look found nothing
pub loop-again-preserved : goal.loop-again-preserved
loop-again-preserved g c =
    let was = c.loop-again.invariant in
    (Longer was.0 c.in-Empty.ensures.takes, was.1, λ tells. c.in-Empty.ensures.empty tells refl ∙ was.2 tells)
