-- One daemon of the world: its part in takeovers, and what it serves. (This project's own.)
use Rattle.std.specs.Prelude.{ℕ, Bool, true, false, List, [], length, Option, Some, None}
use Rattle.std.specs.Option.{option_map_or}
use Rattle.takeover_core.specs.Node.{NodeState, new_node}
use Rattle.takeover_core.specs.declared.phase.Phase.{Phase}
use Rattle.takeover_core.specs.declared.phase.Phase.TheVariants.{Waiting, Reading}
use Rattle.fuse_wire.specs.declared.reply.Reply.{Reply}
use Rattle.fuse_wire.specs.declared.request.Ask.{Ask}
use Rattle.daemon.specs.Server.{ServerState}
use Rattle.daemon.specs.declared.lease.Lease.{Lease}

-- A daemon has a phase and versions of the image. It has what it serves and has in hand, which is none before it
-- mounted or took over, and none once it is gone. It has the bytes of the parts that it read, while it waits for
-- another part.
pub record DaemonState : Type 0 where
  pub node : NodeState
  pub server : Option ServerState
  pub reading : Option (List ℕ)

-- a daemon that was just started, with these versions of the image
abbrev pub new_daemon : List ℕ → DaemonState
new_daemon versions = record { node = new_node versions; server = None; reading = None }

-- whether a daemon may mount in this phase
abbrev pub is_waiting_in : Phase → Bool
is_waiting_in Waiting = true
is_waiting_in phase = false

-- whether the daemon may mount
abbrev pub is_waiting : DaemonState → Bool
is_waiting daemon = is_waiting_in daemon.node.phase

-- the daemon with `node` as its part in takeovers
abbrev pub with_node : DaemonState → NodeState → DaemonState
with_node daemon node = record daemon { node = node }

-- what a daemon in this phase keeps of what it read: all while it waits for another part, else none
abbrev pub read_in : Phase → Option (List ℕ) → Option (List ℕ)
read_in (Reading session generation version position count) read = read
read_in phase read = None

-- the daemon with `node` as its part in takeovers, after it heard a message or gave up
abbrev pub turned_to : DaemonState → NodeState → DaemonState
turned_to daemon node =
    record { node = node; server = daemon.server; reading = read_in node.phase daemon.reading }

-- the daemon with `server` as what it serves and has in hand
abbrev pub with_server : DaemonState → ServerState → DaemonState
with_server daemon server = record daemon { server = Some server }

-- how many requests a daemon has in hand
abbrev pub in_hand : DaemonState → ℕ
in_hand daemon = option_map_or (λ (server : ServerState). length server.hand) daemon.server 0

-- how many replies a daemon did not post
abbrev pub unposted : DaemonState → ℕ
unposted daemon = option_map_or (λ (server : ServerState). length server.unposted) daemon.server 0

-- ---- lent to workers

-- what a lease lends, as a server whose hand is empty
abbrev pub lent_server : Lease → ServerState
lent_server lease =
    record { generation = lease.generation; served = lease.served; hand = []; unposted = [] }

-- the server, if its hand is empty and every reply is posted: then it may be lent
abbrev pub lendable_with : List Ask → List Reply → ServerState → Option ServerState
lendable_with [] [] server = Some server
lendable_with hand unposted server = None

abbrev pub lendable : Option ServerState → Option ServerState
lendable None = None
lendable (Some server) = lendable_with server.hand server.unposted server

-- the daemon after it lent what may be lent: it serves nothing then; if nothing may be lent, the daemon is unchanged
abbrev pub lent_from : DaemonState → Option ServerState → DaemonState
lent_from daemon (Some server) = record daemon { server = None }
lent_from daemon None = daemon

abbrev pub with_lent : DaemonState → DaemonState
with_lent daemon = lent_from daemon (lendable daemon.server)
