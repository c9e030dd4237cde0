-- All daemons and the kernel's side at one moment, and why an event is refused. (This project's own.)
use Rattle.std.specs.Prelude.{◌≡◌, ℕ, ◌+◌, ◌-◌, ◌==◌, Bool, true, false, nat_le, List, [], length, slice_get, slice_set, Option, Some, None, is_none, if◌then◌else◌}
use Rattle.std.specs.List.{position}
use Rattle.std.specs.Option.{option_map, option_and_then, option_map_or}
use Rattle.eden_base.specs.declared.number.DaemonId.{DaemonId}
use Rattle.manifest.specs.Manifest.{Manifest}
use Rattle.fuse_wire.specs.declared.request.Ask.{Ask}
use Rattle.fuse_wire.specs.declared.reply.Reply.{Reply}
use Rattle.broker_core.specs.Broker.{BrokerState, new_broker, mount_fault, issue_fault, take_fault, post_fault, claim_fault}
use Rattle.broker_core.specs.Traffic.{front}
use Rattle.broker_core.specs.declared.seat.Seat.{Seat}
use Rattle.fuse_ops.specs.Served.{ServedState}
use Rattle.takeover_core.specs.Phases.{may_take, drain_fault, claim_wanted}
use Rattle.takeover_core.specs.declared.message.Message.{Message}
use Rattle.takeover_core.specs.declared.message.Message.TheVariants.{Data, Part}
use Rattle.daemon.specs.Refusals.{refusal_of_mount, refusal_of_issue, refusal_of_take, refusal_of_post, refusal_of_drain, refusal_of_claim}
use Rattle.daemon.specs.Daemon.{DaemonState, is_waiting, in_hand, unposted}
use Rattle.daemon.specs.Server.{ServerState, at_position}
use Rattle.world.specs.declared.event.Event.{Event}
use Rattle.world.specs.declared.event.Event.TheVariants.{Start, Mount, Issue, Take, Work, Post, Deliver, Hear, Drained, GiveUp, Claim, Crash}
use Rattle.daemon.specs.declared.happened.Refusal.{Refusal}
use Rattle.daemon.specs.declared.happened.Refusal.TheVariants as refusal

-- a state: the manifest that every daemon is handed, how many loaded files a daemon keeps, the kernel's side, the
-- daemons in the order in which they started, and every message that a daemon said
pub record State : Type 0 where
  pub manifest : Manifest
  pub limit : ℕ
  pub broker : BrokerState
  pub daemons : List DaemonState
  pub messages : List Message

-- the state before anything happened
abbrev pub started : Manifest → ℕ → State
started manifest limit =
    record { manifest = manifest; limit = limit; broker = new_broker; daemons = []; messages = [] }

-- how many daemons a world starts at most
abbrev pub most_daemons : ℕ
most_daemons = 1024

-- the daemon of a number, if there is one; the first daemon's number is 1
abbrev pub daemon_of : State → DaemonId → Option DaemonState
daemon_of state daemon = if daemon.0 == 0 then None else slice_get state.daemons (daemon.0 - 1)

-- the state with this daemon replaced by `now`
abbrev pub with_daemon : State → DaemonId → DaemonState → State
with_daemon state daemon now = record state { daemons = slice_set state.daemons (daemon.0 - 1) now }

-- the daemon at an index changes as `does` says, and the other daemons do not
pub record ChangesAt (does : DaemonState → DaemonState → Type 0) (old : List DaemonState) (index : ℕ)
    (new : List DaemonState) : Type 0 where
  pub was : DaemonState
  pub later : DaemonState
  pub is_there : slice_get old index ≡ Some was
  pub does_so : does was later
  pub makes : new ≡ slice_set old index later

-- what a daemon serves and has in hand, if there is such a daemon and it serves
abbrev pub server_of : State → DaemonId → Option ServerState
server_of state daemon = option_and_then (λ (of : DaemonState). of.server) (daemon_of state daemon)

-- what a daemon serves, if there is such a daemon and it serves
abbrev pub served_of : State → DaemonId → Option ServedState
served_of state daemon = option_map (λ (server : ServerState). server.served) (server_of state daemon)

-- what a daemon took and did not work yet; none if it does not serve
abbrev pub hand_of : State → DaemonId → List Ask
hand_of state daemon = option_map_or (λ (server : ServerState). server.hand) (server_of state daemon) []

-- what a daemon answered and did not post yet; none if it does not serve
abbrev pub unposted_of : State → DaemonId → List Reply
unposted_of state daemon = option_map_or (λ (server : ServerState). server.unposted) (server_of state daemon) []

-- the daemon of the seat serves `server`
pub record IsSeated (state : State) (seat : Seat) (server : ServerState) : Type 0 where
  pub has_seat : state.broker.seat ≡ Some seat
  pub serves : server_of state seat.daemon ≡ Some server

-- whether a message is data of this generation: all of the data, or a part
abbrev pub is_data_of : ℕ → Message → Bool
is_data_of generation (Data session at bytes) = at == generation
is_data_of generation (Part session at position count bytes) = at == generation
is_data_of generation other = false

-- the position of the first message that is data of the seat's generation, if there is one; the first position is 1
abbrev pub handed_of : State → Option ℕ
handed_of state = option_and_then (λ (seat : Seat).
    option_map (λ (index : ℕ). index + 1) (position (is_data_of seat.generation) state.messages)) state.broker.seat

-- ---- refusals

-- why a daemon cannot mount, if it cannot; its phase comes before the seat
abbrev pub mount_refusal : State → Option DaemonState → Option Refusal
mount_refusal state None = Some refusal.NoDaemon
mount_refusal state (Some of) =
    if is_waiting of then option_map refusal_of_mount (mount_fault state.broker) else Some refusal.WrongPhase

-- why a daemon with this server cannot take, if it cannot: its phase is none to take in, or the broker refuses the take
abbrev pub server_refusal : State → DaemonId → Bool → Option ServerState → Option Refusal
server_refusal state daemon true (Some server) =
    option_map refusal_of_take (take_fault state.broker daemon server.generation)
server_refusal state daemon may server = Some refusal.WrongPhase

-- why a daemon cannot take, if it cannot: it takes while it serves or drains
abbrev pub take_refusal : State → DaemonId → Option DaemonState → Option Refusal
take_refusal state daemon None = Some refusal.NoDaemon
take_refusal state daemon (Some of) = server_refusal state daemon (may_take of.node.phase) of.server

-- why the request at a position of a hand cannot be worked, if it cannot
abbrev pub hand_refusal : ℕ → Option ServerState → Option Refusal
hand_refusal position None = Some refusal.NoSuch
hand_refusal position (Some server) = if is_none (at_position server.hand position) then Some refusal.NoSuch else None

-- why a daemon cannot work the request at a position, if it cannot; a daemon that does not serve has none in hand
abbrev pub work_refusal : ℕ → Option DaemonState → Option Refusal
work_refusal position None = Some refusal.NoDaemon
work_refusal position (Some of) = hand_refusal position of.server

-- why a reply cannot be posted at the generation of its daemon, if it cannot
abbrev pub reply_refusal : State → DaemonId → ServerState → Option Reply → Option Refusal
reply_refusal state daemon server None = Some refusal.NoSuch
reply_refusal state daemon server (Some reply) =
    option_map refusal_of_post (post_fault state.broker daemon server.generation reply)

-- why the reply at a position of the unposted ones cannot be posted, if it cannot
abbrev pub unposted_refusal : State → DaemonId → ℕ → Option ServerState → Option Refusal
unposted_refusal state daemon position None = Some refusal.NoSuch
unposted_refusal state daemon position (Some server) =
    reply_refusal state daemon server (at_position server.unposted position)

-- why a daemon cannot post its reply at a position, if it cannot; a daemon that does not serve has none to post
abbrev pub post_refusal : State → DaemonId → ℕ → Option DaemonState → Option Refusal
post_refusal state daemon position None = Some refusal.NoDaemon
post_refusal state daemon position (Some of) = unposted_refusal state daemon position of.server

-- why a daemon cannot hear the message at a position, if it cannot: there is no such daemon or no such message
abbrev pub hear_refusal : State → ℕ → Option DaemonState → Option Refusal
hear_refusal state position None = Some refusal.NoDaemon
hear_refusal state position (Some of) =
    if is_none (at_position state.messages position) then Some refusal.NoSuch else None

-- what keeps a daemon from handing over, if anything does: it does not drain, or has something in hand or unposted
abbrev pub drained_refusal : Option DaemonState → Option Refusal
drained_refusal None = Some refusal.NoDaemon
drained_refusal (Some of) = option_map refusal_of_drain (drain_fault of.node.phase (in_hand of) (unposted of))

-- why the seat cannot be claimed from the generation that a daemon wants to claim from, if it cannot
abbrev pub wanted_refusal : State → Option ℕ → Option Refusal
wanted_refusal state None = Some refusal.WrongPhase
wanted_refusal state (Some generation) = option_map refusal_of_claim (claim_fault state.broker generation)

-- why a daemon cannot claim the seat, if it cannot
abbrev pub claim_refusal : State → Option DaemonState → Option Refusal
claim_refusal state None = Some refusal.NoDaemon
claim_refusal state (Some of) = wanted_refusal state (claim_wanted of.node.phase)

-- the refusal of an event whose daemon was never started
abbrev pub absence : Option DaemonState → Option Refusal
absence None = Some refusal.NoDaemon
absence (Some of) = None

-- Why an event is refused for a cause other than memory, if it is: the first cause that holds. A look is never refused.
-- A `do` has no cause of its own: each of its events has.
abbrev pub fault : State → Event → Option Refusal
fault state (Start versions) = if nat_le most_daemons (length state.daemons) then Some refusal.Full else None
fault state (Mount daemon) = mount_refusal state (daemon_of state daemon)
fault state (Issue request) = option_map refusal_of_issue (issue_fault state.broker request)
fault state (Take daemon) = take_refusal state daemon (daemon_of state daemon)
fault state (Work daemon position fails) = work_refusal position (daemon_of state daemon)
fault state (Post daemon position) = post_refusal state daemon position (daemon_of state daemon)
fault state Deliver = if is_none (front state.broker.traffic.posted) then Some refusal.Empty else None
fault state (Hear daemon position) = hear_refusal state position (daemon_of state daemon)
fault state (Drained daemon) = drained_refusal (daemon_of state daemon)
fault state (GiveUp daemon) = absence (daemon_of state daemon)
fault state (Claim daemon) = claim_refusal state (daemon_of state daemon)
fault state (Crash daemon) = absence (daemon_of state daemon)
fault state event = None
