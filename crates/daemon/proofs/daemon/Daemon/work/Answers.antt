-- What the daemon serves works.
use Rattle.std.proofs.Common.{Some, subst}
use Rattle.daemon.specs.Daemon.{DaemonState}
use Rattle.daemon.specs.Serving.{DaemonWorks}
use Rattle.daemon.proofs.DaemonCalls.{works-with}
use Rattle.daemon.proofs.daemon.Daemon.work.Goals as goal

pub returns : goal.returns
returns c =
    let was : DaemonState = record { node = c.self.inside.node; server = c.self.inside.server; reading = c.self.inside.reading } in
    record {
      works = subst (λ (d : DaemonState). DaemonWorks c.args.position c.args.fails c.work.result d (record { node = c.self.inside.node; server = Some c.work.new.self; reading = c.self.inside.reading })) c.self.view_is
          (works-with c.args.position c.args.fails c.work.result was c.in-Some.server c.work.new.self c.in-Some.is c.work.ensures.works);
    }
