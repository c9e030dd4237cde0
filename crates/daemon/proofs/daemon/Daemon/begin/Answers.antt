-- A request is issued, and what the daemon serves takes.
use Rattle.std.proofs.Common.{Some, subst}
use Rattle.daemon.specs.Daemon.{DaemonState}
use Rattle.daemon.specs.Beginning.{DaemonBegins}
use Rattle.daemon.proofs.BeginningLemmas.{begins-with}
use Rattle.daemon.proofs.daemon.Daemon.begin.Goals as goal

pub returns-then-may_take : goal.returns-then-may_take
returns-then-may_take c =
    let was : DaemonState = record { node = c.self.inside.node; server = c.self.inside.server; reading = c.self.inside.reading } in
    record {
      begins = subst (λ (d : DaemonState). DaemonBegins c.args.broker.now c.args.daemon c.args.request.now c.begin.result c.begin.new.broker d (record { node = c.self.inside.node; server = Some c.begin.new.self; reading = c.self.inside.reading })) c.self.view_is
          (begins-with c.args.broker.now c.begin.new.broker c.args.daemon c.args.request.now c.begin.result was c.in-Some.server c.begin.new.self c.if-may_take.ensures.may_take c.in-Some.is c.begin.ensures.begins);
    }
