-- The last look found what came, and looks leave what they look for as it was.
use Rattle.std.proofs.Common.{rules, subst}
use Rattle.broker_process.specs.Playing.{HasCome}
use Rattle.broker_process.proofs.shared_desk.SharedDesk.wait_for.Goals as goal

pub returns : goal.returns
returns g c =
    let found = c.wait_until.ensures.found in
    let kept = found.5 (λ a r f' s. search rules) in
    let has : HasCome found.0.0.now c.wait_until.result = search rules in
    record { come = subst (λ f. HasCome f.0.now c.wait_until.result) kept has }
