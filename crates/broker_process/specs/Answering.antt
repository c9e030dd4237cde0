-- How a frame of a connection is answered. (This project's own.)
use Rattle.std.specs.Prelude.{◌≡◌, ℕ, ◌==◌, Bool, true, false, not, ◌&&◌, ◌||◌, List, Option, Some, None, is_none, is_some, count_by, map, nat_lt, position, if◌then◌else◌}
use Rattle.broker_core.specs.Broker.{BrokerState}
use Rattle.std.specs.Option.{option_map_or}
use Rattle.broker_desk.specs.Desk.{Answers, DeskState, peer_after, told_by}
use Rattle.broker_desk.specs.declared.peer.Peer.{Peer}
use Rattle.broker_desk.specs.declared.peer.Response.{Response}
use Rattle.broker_desk.specs.declared.peer.Response.TheVariants.{Closes, Tells}
use Rattle.frames.specs.declared.frame.Frame.{Frame}
use Rattle.frames.specs.declared.frame.Frame.TheVariants.{Attach, Mount, Seated}
use Rattle.broker_process.specs.Connections.{has_not_attached, has_number, named, works_for}
use Rattle.broker_process.specs.HeldTakes.{answer_of, answer_wakes, AnswersOf, Holds}
use Rattle.broker_process.specs.Posting.{delivery_of, is_left, PostsBehind}
use Rattle.broker_process.specs.SharedDesk.{is_empty, wakes}
use Rattle.broker_process.specs.declared.connection_handle.ConnectionHandle.{ConnectionHandle}
use Rattle.broker_process.specs.declared.connections.OpenConnection.{OpenConnection}
use Rattle.broker_process.specs.declared.held_takes.HeldTake.{HeldTake}
use Rattle.broker_process.specs.declared.shared_desk.AcceptedConnection.{AcceptedConnection}
use Rattle.broker_process.specs.declared.shared_desk.SharedDeskState.{SharedDeskState}
use Rattle.broker_process.specs.declared.shared_desk.mounted.Posting.{Posting}
use Rattle.broker_process.specs.declared.shared_desk.takes.Answered.{Answered}
use Rattle.broker_process.specs.declared.shared_desk.takes.HeldAnswer.{HeldAnswer}

-- whether what this frame asks for is within the limit: a new daemon, or one of 16 workers of another
abbrev pub has_place : List OpenConnection → Frame → Bool
has_place connections (Attach daemon) = daemon.0 == 0 || nat_lt (count_by (works_for daemon) connections) 16
has_place connections frame = true

-- whether the connection of this number may attach by this frame: it did not have to go, and there is a place
abbrev pub may_attach : List OpenConnection → ℕ → Frame → Bool
may_attach connections number frame = has_place connections frame && is_some (position (has_number number) connections)

-- whether the connection is closed for this frame: nobody attached by it, and nobody may
abbrev pub is_turned_away : List OpenConnection → ℕ → Peer → Frame → Bool
is_turned_away connections number peer frame = has_not_attached peer && not (may_attach connections number frame)

-- whether a daemon asks to mount
abbrev pub is_mount : Frame → Bool
is_mount Mount = true
is_mount frame = false

-- whether a daemon asks to mount while the kernel still has the mount of one that is gone
abbrev pub is_kept_out : Bool → BrokerState → Peer → Frame → Bool
is_kept_out is_mounted broker peer frame =
    not (has_not_attached peer) && (is_mounted && is_none broker.seat) && is_mount frame

-- A frame of this peer is answered by the desk, which then knows the peer so. Where the connection is turned away it is closed, and
-- where a daemon is kept out it is told that another one has the seat; then nothing changes.
abbrev pub AnswersFrame : Bool → Bool → DeskState → Peer → Frame → Response → DeskState → Peer → Type 0
AnswersFrame true out old peer frame response new after = (response ≡ Closes) × (new ≡ old) × (after ≡ peer)
AnswersFrame false true old peer frame response new after = (response ≡ Tells Seated) × (new ≡ old) × (after ≡ peer)
AnswersFrame false false old peer frame response new after = Answers old peer frame response new × (after ≡ peer_after old peer frame)

-- the connections, of which that of this number has this peer from now on, if nobody had attached by it
abbrev pub with_peer : ℕ → Peer → Peer → List OpenConnection → List OpenConnection
with_peer number before after connections = if has_not_attached before then map (named number after) connections else connections

-- the connection is told this response; or not yet, since it is that a Take found nothing
abbrev pub TellsOrWaits : Response → Option Response → Type 0
TellsOrWaits response (Some told) = told ≡ response
TellsOrWaits response None = option_map_or is_empty (told_by response) false ≡ true

-- A frame of a connection in its turn. First the Take is answered that waited there, if one did, and then the frame, over what that
-- left. A Take that found nothing waits. Behind a posted reply the first one for the kernel is taken out. The script is woken by
-- either answer, and where a reply is left for another thread. `left` is the frame afterwards.
pub record AnswersInTurn (old : SharedDeskState) (accepted : AcceptedConnection) (handle : ConnectionHandle) (frame left : Frame)
    (answered : Answered) (woken : Bool) (new : SharedDeskState) : Type 0 where
  pub earlier : Option HeldAnswer
  pub before : DeskState
  pub waiting : List HeldTake
  pub first : AnswersOf accepted.number old.desk old.takes.takes.items earlier before waiting
  pub first_is : answered.earlier ≡ answer_of earlier
  pub response : Response
  pub peer : Peer
  pub desk : DeskState
  pub then_answers : AnswersFrame (is_turned_away old.connections.list.items accepted.number accepted.peer frame)
      (is_kept_out old.is_mounted before.broker accepted.peer frame) before accepted.peer frame response desk peer
  pub response_is : TellsOrWaits response answered.response
  pub holds : Holds (record accepted { peer = peer }) handle old.takes.tick left (is_none answered.response) waiting new.takes.takes.items
  pub posting : Posting
  pub posts : PostsBehind (told_by response) old.writer desk old.kernel posting new.desk new.kernel
  pub delivery_is : answered.delivery ≡ delivery_of posting
  pub wakes_is : woken ≡ ((answer_wakes earlier || option_map_or (wakes old.waiting) (told_by response) false) || is_left posting)
