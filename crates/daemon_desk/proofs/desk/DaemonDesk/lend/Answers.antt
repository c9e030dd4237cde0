-- What is lent is at the seat's generation.
use Rattle.std.proofs.Common.{◌≡◌, false, ap, rules}
use Rattle.std.specs.Prelude.{is_none}
use Rattle.daemon_desk.specs.Desk.{DeskState}
use Rattle.daemon_desk.proofs.Lending.{lends_at, lent_orderly}
use Rattle.daemon_desk.proofs.desk.DaemonDesk.lend.Goals as goal

pub returns-clause-generation : goal.returns-clause-generation
returns-clause-generation c =
    let serves : is_none c.serving.result ≡ false = grind (rules, c.is_none.ensures, c.if-is_none.false) in
    lends_at c.args.self.now.daemon.node.phase c.self.inside.is_lent c.self.inside.daemon c.serving.result c.in_ok-lease.lease
    (ap (λ (d : DeskState). d.daemon.node.phase) c.self.view_is) c.self.invariant c.serving.ensures.seat serves c.in_ok-lease.ensures.lent

pub invariant_of-self-2 : goal.invariant_of-self-2
invariant_of-self-2 c =
    let serves : is_none c.serving.result ≡ false = grind (rules, c.is_none.ensures, c.if-is_none.false) in
    lent_orderly c.args.self.now.daemon.node.phase c.self.inside.daemon c.lend.new.self c.serving.result c.in_ok-lease.lease
    (ap (λ (d : DeskState). d.daemon.node.phase) c.self.view_is) c.serving.ensures.serving serves c.in_ok-lease.ensures.lent c.in_ok-lease.ensures.becomes
