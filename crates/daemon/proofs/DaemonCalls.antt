-- What a daemon's calls did, by what it serves.
use Rattle.std.proofs.Common.{◌≡◌, ℕ, Bool, true, Option, Some, sym, subst, refl}
use Rattle.eden_base.specs.declared.number.DaemonId.{DaemonId}
use Rattle.broker_core.specs.Broker.{BrokerState, take_fault}
use Rattle.takeover_core.specs.Phases.{may_take}
use Rattle.daemon.specs.Daemon.{DaemonState, with_server}
use Rattle.daemon.specs.Server.{ServerState, at_position}
use Rattle.daemon.specs.Serving.{TakesBy, WorksBy, PostsBy, TakesIf, WorksIf, PostsIf, DaemonTakes, DaemonWorks, DaemonPosts}
use Rattle.daemon.specs.declared.happened.Happened.{Happened}

pub takes-with : (broker left : BrokerState) (daemon : DaemonId) (told : Happened) (was : DaemonState) (server now : ServerState) → true ≡ may_take was.node.phase → was.server ≡ Some server → TakesBy (take_fault broker daemon server.generation) server broker told now left →
    DaemonTakes broker daemon told left was (with_server was now)
takes-with broker left daemon told was server now may serves h =
    subst (λ (b : Bool). TakesIf broker daemon told left b was.server was (with_server was now)) may
    (subst (λ (o : Option ServerState). TakesIf broker daemon told left true o was (with_server was now)) (sym serves) (record { later = now; takes = h; makes = refl }))

pub works-with : (position : ℕ) (fails : Bool) (told : Happened) (was : DaemonState) (server now : ServerState) → was.server ≡ Some server → WorksBy (at_position server.hand position) server position fails told now → DaemonWorks position fails told was (with_server was now)
works-with position fails told was server now serves h =
    subst (λ (o : Option ServerState). WorksIf position fails told o was (with_server was now)) (sym serves) (record { later = now; works = h; makes = refl })

pub posts-with : (broker left : BrokerState) (daemon : DaemonId) (position : ℕ) (told : Happened) (was : DaemonState) (server now : ServerState) → was.server ≡ Some server → PostsBy (at_position server.unposted position) server broker daemon position told now left →
    DaemonPosts broker daemon position told left was (with_server was now)
posts-with broker left daemon position told was server now serves h =
    subst (λ (o : Option ServerState). PostsIf broker daemon position told left o was (with_server was now)) (sym serves) (record { later = now; posts = h; makes = refl })
