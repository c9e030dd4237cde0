-- What makes a takeover keep what is known: which daemons may have data of the seat, and what is in that data. All of
-- this is said of the state alone. (This project's own.)
use Rattle.std.specs.Prelude.{◌≡◌, ◌≢◌, ℕ, ◌-◌, ◌≤◌, ◌⊎◌, Bool, true, false, List, [], length, filter, take, Option, Some, None}
use Rattle.std.specs.List.{AllByRecursion, concat}
use Rattle.eden_base.specs.Limits.{last_generation}
use Rattle.eden_base.specs.declared.number.DaemonId.{DaemonId}
use Rattle.manifest.specs.Manifest.{IsManifest}
use Rattle.broker_core.specs.declared.seat.Seat.{Seat}
use Rattle.fuse_ops.specs.Served.{plain}
use Rattle.map_image.specs.Parts.{AreParts}
use Rattle.map_codec.specs.Handover.{IsHandedOver}
use Rattle.takeover_core.specs.Histories.{seat_of}
use Rattle.takeover_core.specs.Phases.{claim_wanted}
use Rattle.takeover_core.specs.declared.message.Message.{Message}
use Rattle.takeover_core.specs.declared.message.Message.TheVariants.{Data, Part}
use Rattle.takeover_core.specs.declared.phase.Phase.{Phase}
use Rattle.takeover_core.specs.declared.phase.Phase.TheVariants.{Draining, Pinged, Making, Handed, Holding, Serving, Reading}
use Rattle.daemon.specs.Daemon.{DaemonState}
use Rattle.daemon.specs.Server.{ServerState, IsIdle}
use Rattle.daemon.specs.Talking.{IsSent}
use Rattle.world.specs.State.{State, daemon_of, is_data_of}

-- ---- phases

-- the generation of a phase: at which a daemon in it has the seat, as far as it knows, or from which it wants to claim
abbrev pub part_at : Phase → Option ℕ
part_at (Serving g) = Some g
part_at (Draining g s v) = Some g
part_at (Pinged g s v) = Some g
part_at (Making g s v) = Some g
part_at (Handed g s) = Some g
part_at (Holding g) = Some g
part_at phase = None

-- whether a daemon in this phase takes nothing any more, until it serves again
abbrev pub is_drained : Phase → Bool
is_drained (Pinged g s v) = true
is_drained (Making g s v) = true
is_drained (Handed g s) = true
is_drained (Holding g) = true
is_drained phase = false

-- whether data of this phase's generation may be out
abbrev pub is_out : Phase → Bool
is_out (Handed g s) = true
is_out (Holding g) = true
is_out phase = false

-- whether a daemon in this phase takes part in a session that a claim may follow
abbrev pub in_session : Phase → Bool
in_session (Draining g s v) = true
in_session (Pinged g s v) = true
in_session (Making g s v) = true
in_session (Handed g s) = true
in_session (Holding g) = true
in_session phase = false

-- the generation of which a daemon in this phase reads parts, if it reads
abbrev pub reads_at : Phase → Option ℕ
reads_at (Reading s g v i n) = Some g
reads_at phase = None

-- ---- who has the seat

-- the daemon `was` has the seat, and serves `server`
pub record HasTheSeat (state : State) (seat : Seat) (was : DaemonState) (server : ServerState) : Type 0 where
  pub seated : state.broker.seat ≡ Some seat
  pub there : daemon_of state seat.daemon ≡ Some was
  pub serves : was.server ≡ Some server

-- ---- the data of a generation

-- the messages that are data of a generation, in order
abbrev pub data_of : ℕ → List Message → List Message
data_of generation messages = filter (is_data_of generation) messages

-- The holder of the seat handed over what it serves: the data of the seat's generation is the text of its image.
pub record HasHanded (state : State) (seat : Seat) (was : DaemonState) (server : ServerState) : Type 0 where
  pub session : ℕ
  pub version : ℕ
  pub text : List ℕ
  pub out : is_out was.node.phase ≡ true
  pub handed : IsHandedOver server.served seat.generation version text
  pub said : IsSent version session seat.generation text (data_of seat.generation state.messages)

-- a daemon in a phase in which it reads parts of a text has read the parts before the one that it waits for
abbrev pub HasRead : Phase → Option (List ℕ) → List ℕ → Type 0
HasRead (Reading s g v i n) reading text =
    (parts : List (List ℕ)) × AreParts text parts × (n ≡ length parts) × (reading ≡ Some (concat (take (i - 1) parts)))
    × (2 ≤ i) × (i ≤ n)
HasRead phase reading text = Unit {0}

-- ---- what stands

-- if a message is data, its generation is at most this one
abbrev pub IsPast : ℕ → Message → Type 0
IsPast last (Data session generation bytes) = generation ≤ last
IsPast last (Part session generation position count bytes) = generation ≤ last
IsPast last other = Unit {0}

-- a daemon reads parts of the seat's data, which is out, and has read the parts that come first in what was handed over
pub record ReadsHanded (state : State) (seat : Seat) (holder : DaemonState) (handed : ServerState)
    (was : DaemonState) : Type 0 where
  pub out : is_out holder.node.phase ≡ true
  pub some : data_of seat.generation state.messages ≢ []
  pub read : (over : HasHanded state seat holder handed) → HasRead was.node.phase was.reading over.text

-- A daemon's phase is of a generation that was, and the daemon serves something in it. Once drained, it has nothing in
-- hand. Only the seat's daemon serves at the seat's generation. The seat's daemon has its phase at that generation, and
-- is in a session only where a claim can follow. What a daemon holds or reads from the seat's generation is what the
-- seat's daemon handed over.
pub record DaemonStands (state : State) (daemon : DaemonId) (was : DaemonState) : Type 0 where
  pub at_most : (g : ℕ) → part_at was.node.phase ≡ Some g → g ≤ state.broker.last
  pub serves : (g : ℕ) → part_at was.node.phase ≡ Some g → (server : ServerState) × (was.server ≡ Some server)
  pub drained : (server : ServerState) → was.server ≡ Some server → is_drained was.node.phase ≡ true → IsIdle server
  pub only : (seat : Seat) → state.broker.seat ≡ Some seat → seat_of was.node.phase ≡ Some seat.generation →
      daemon ≡ seat.daemon
  pub part : (seat : Seat) → state.broker.seat ≡ Some seat → daemon ≡ seat.daemon →
      part_at was.node.phase ≡ Some seat.generation
  pub goes_on : (seat : Seat) → state.broker.seat ≡ Some seat → daemon ≡ seat.daemon →
      in_session was.node.phase ≡ true → seat.generation ≢ last_generation
  pub held : (seat : Seat) (holder : DaemonState) (handed server : ServerState) → HasTheSeat state seat holder handed →
      claim_wanted was.node.phase ≡ Some seat.generation → was.server ≡ Some server →
      (is_out holder.node.phase ≡ true) × (plain server.served ≡ plain handed.served)
  pub past : (g : ℕ) → reads_at was.node.phase ≡ Some g → g ≤ state.broker.last
  pub reads : (seat : Seat) (holder : DaemonState) (handed : ServerState) → HasTheSeat state seat holder handed →
      reads_at was.node.phase ≡ Some seat.generation → ReadsHanded state seat holder handed was

-- no data of the seat's generation was said, or the data that was said is what the seat's daemon handed over
abbrev pub HandsOnce : State → Type 0
HandsOnce state =
    (seat : Seat) (was : DaemonState) (server : ServerState) → HasTheSeat state seat was server →
    (data_of seat.generation state.messages ≡ []) ⊎ HasHanded state seat was server

-- every daemon is as `DaemonStands` has it, no message is data of a generation to come, and the seat's data was handed
-- over once at most
pub record IsHanding (state : State) : Type 0 where
  pub is_manifest : IsManifest state.manifest
  pub low : state.broker.last ≤ last_generation
  pub daemons : (daemon : DaemonId) (was : DaemonState) → daemon_of state daemon ≡ Some was →
      DaemonStands state daemon was
  pub messages : AllByRecursion (IsPast state.broker.last) state.messages
  pub once : HandsOnce state
