-- What holds of a desk before and after each call.
use Rattle.std.specs.Prelude.{◌≡◌, ℕ, Bool, true, false, Option, Some, None, IsSome}
use Rattle.std.specs.Option.{IfSome}
use Rattle.takeover_core.specs.Histories.{seat_of}
use Rattle.takeover_core.specs.Phases.{may_take}
use Rattle.takeover_core.specs.declared.phase.Phase.{Phase}
use Rattle.takeover_core.specs.declared.phase.Phase.TheVariants.{Waiting, Chosen, Taking, Reading, Raising, Gone}
use Rattle.daemon.specs.Daemon.{DaemonState}
use Rattle.daemon.specs.Server.{ServerState, IsIdle}

-- a daemon whose served state is lent is in a phase in which workers may take, and serves nothing
pub record IsLentBy (daemon : DaemonState) : Type 0 where
  pub may_take : may_take daemon.node.phase ≡ true
  pub serves_nothing : daemon.server ≡ None

-- whether a daemon in this phase knows what is served, be it by a mount or from data
abbrev pub knows : Phase → Bool
knows Waiting = false
knows (Chosen session version) = false
knows (Taking session generation version position count) = false
knows (Reading session generation version position count) = false
knows (Raising session generation) = false
knows Gone = false
knows phase = true

-- the server, if there is one, is at this generation
abbrev pub IsServedAt : ℕ → Option ServerState → Type 0
IsServedAt generation server = IfSome server (λ (s : ServerState). s.generation ≡ generation)

-- a daemon that has the seat serves at the seat's generation, if it serves
abbrev pub IsAtSeat : DaemonState → Type 0
IsAtSeat daemon = (generation : ℕ) → seat_of daemon.node.phase ≡ Some generation → IsServedAt generation daemon.server

-- What a daemon serves has an empty hand, since workers settle before they give a lease back. A daemon that knows what
-- is served serves it, unless it is lent. A daemon that has the seat serves at the seat's generation.
pub record IsOrderly (is_lent : Bool) (daemon : DaemonState) : Type 0 where
  pub lent : is_lent ≡ true → IsLentBy daemon
  pub idle : IfSome daemon.server IsIdle
  pub known : knows daemon.node.phase ≡ true → is_lent ≡ false → IsSome daemon.server
  pub at : IsAtSeat daemon
