-- What is served has nothing in hand, and is served at the generation.
use Rattle.std.proofs.Common.{ap, subst, ◌∙◌}
use Rattle.daemon.specs.Daemon.{is_waiting}
use Rattle.daemon.specs.Server.{ServerState}
use Rattle.daemon.specs.Talking.{MountsSo}
use Rattle.daemon_desk.specs.Desk.{DeskState}
use Rattle.daemon_desk.proofs.Keeping.{mounts_at, mounts_keep}
use Rattle.daemon_desk.proofs.desk.DaemonDesk.mount.Goals as goal

pub invariant_of-self : goal.invariant_of-self
invariant_of-self c =
    mounts_keep c.self.inside.is_lent c.self.inside.daemon c.mount.new.self c.args.generation c.in-Some.prepared.served c.self.invariant
    (ap (λ (d : DeskState). is_waiting d.daemon) c.self.view_is ∙ c.requires.waiting)
    (subst (λ (s : ServerState). MountsSo c.args.generation s c.self.inside.daemon c.mount.new.self) c.new-server.ensures.new c.mount.ensures.mounts)

pub returns-clause-serves : goal.returns-clause-serves
returns-clause-serves c =
    mounts_at c.self.inside.daemon c.mount.new.self c.args.generation _
    (ap (λ (d : DeskState). is_waiting d.daemon) c.self.view_is ∙ c.requires.waiting) c.mount.ensures.mounts
