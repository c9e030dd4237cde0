-- What the daemon serves takes.
use Rattle.std.proofs.Common.{Some, subst}
use Rattle.daemon.specs.Daemon.{DaemonState}
use Rattle.daemon.specs.Serving.{DaemonTakes}
use Rattle.daemon.proofs.DaemonCalls.{takes-with}
use Rattle.daemon.proofs.daemon.Daemon.take.Goals as goal

pub returns : goal.returns
returns c =
    let was : DaemonState = record { node = c.self.inside.node; server = c.self.inside.server; reading = c.self.inside.reading } in
    record {
      takes = subst (λ (d : DaemonState). DaemonTakes c.args.broker.now c.args.daemon c.take.result c.take.new.broker d (record { node = c.self.inside.node; server = Some c.take.new.self; reading = c.self.inside.reading })) c.self.view_is
          (takes-with c.args.broker.now c.take.new.broker c.args.daemon c.take.result was c.in-Some.server c.take.new.self c.if-not-may_take.ensures.may_take c.in-Some.is c.take.ensures.takes);
    }
