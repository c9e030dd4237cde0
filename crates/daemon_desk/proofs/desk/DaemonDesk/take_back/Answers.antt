-- What was lent at this generation is served again.
use Rattle.std.proofs.Common.{ap, sym}
use Rattle.daemon_desk.specs.Desk.{DeskState}
use Rattle.daemon_desk.proofs.Keeping.{returned_keeps}
use Rattle.daemon_desk.proofs.Lending.{taking_by_loan}
use Rattle.daemon_desk.proofs.desk.DaemonDesk.take_back.Goals as goal

pub invariant_of-self : goal.invariant_of-self
invariant_of-self c =
    let same = sym (ap (λ (d : DeskState). d.daemon.node.phase) c.self.view_is) in
    let taking = taking_by_loan c.args.self.now c.self.inside.daemon.node.phase c.args.lease.generation same c.if-not-has_lent_at.ensures.lent in
    returned_keeps c.self.inside.daemon c.take_back.new.self c.args.lease.generation c.args.lease.served taking c.take_back.ensures.back
