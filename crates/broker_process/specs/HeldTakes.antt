-- Takes that wait for an ask, and which of them is answered. (This project's own.)
use Rattle.std.specs.Arc.{arc_value}
use Rattle.std.specs.Prelude.{◌≡◌, ℕ, Bool, true, false, not, ◌==◌, ◌++◌, ◌∷◌, [], nat_lt, List, Option, Some, None, position, slice_get, remove}
use Rattle.eden_base.specs.declared.number.DaemonId.{DaemonId}
use Rattle.broker_core.specs.Broker.{BrokerState, take_fault}
use Rattle.broker_core.specs.declared.fault.TakeFault.{TakeFault}
use Rattle.broker_core.specs.declared.fault.TakeFault.TheVariants as refused
use Rattle.broker_desk.specs.Desk.{Answers, DeskState}
use Rattle.broker_desk.specs.declared.peer.Peer.{Peer}
use Rattle.broker_desk.specs.declared.peer.Peer.TheVariants.{Unattached, Daemon, Worker}
use Rattle.broker_desk.specs.declared.peer.Response.{Response}
use Rattle.frames.specs.declared.frame.Frame.{Frame}
use Rattle.frames.specs.declared.frame.Frame.TheVariants.{Take as ATake}
use Rattle.broker_process.specs.declared.connection_handle.ConnectionHandle.{ConnectionHandle}
use Rattle.broker_process.specs.declared.held_takes.HeldTake.{HeldTake}
use Rattle.broker_process.specs.declared.shared_desk.AcceptedConnection.{AcceptedConnection}
use Rattle.broker_process.specs.declared.shared_desk.takes.HeldAnswer.{HeldAnswer}
use Rattle.broker_process.specs.declared.shared_desk.takes.TakeAnswer.{TakeAnswer}

-- whether the Take came by the connection of this number
abbrev pub is_of : ℕ → HeldTake → Bool
is_of number take = take.number == number

-- the daemon for which a Take of this peer asks; one that attached to nothing is no daemon
abbrev pub daemon_of : Peer → DaemonId
daemon_of Unattached = record { 0 = 0 }
daemon_of (Daemon daemon) = daemon
daemon_of (Worker daemon) = daemon

-- whether a Take waits on by this refusal: there is nothing to take yet
abbrev pub waits_on : Option TakeFault → Bool
waits_on (Some refused.Empty) = true
waits_on (Some refused.Ended) = false
waits_on (Some (refused.Stale now)) = false
waits_on None = false

-- whether the broker has an answer to a Take: something to take, or why there will be nothing
abbrev pub has_answer : BrokerState → HeldTake → Bool
has_answer broker take = not (waits_on (take_fault broker (daemon_of take.peer) take.generation))

-- whether a Take came before this tick began, so that it has waited for long enough
abbrev pub is_expired : ℕ → HeldTake → Bool
is_expired tick take = nat_lt take.tick tick

-- the Take at this place was taken out of the list; none where there is no such place
abbrev pub Removes : Option ℕ → List HeldTake → Option HeldTake → List HeldTake → Type 0
Removes (Some place) old (Some take) new = (slice_get old place ≡ Some take) × (new ≡ remove old place)
Removes (Some place) old None new = ⊥
Removes None old (Some take) new = ⊥
Removes None old None new = new ≡ old

-- both handles are of the same connection
abbrev pub SameConnection : ConnectionHandle → ConnectionHandle → Type 0
SameConnection handle other = arc_value handle.end ≡ arc_value other.end

-- a Take of this connection that came in this tick, whose answer goes to the connection of this handle behind what is owed there
pub record IsTakeOf (accepted : AcceptedConnection) (handle : ConnectionHandle) (tick : ℕ) (take : HeldTake) : Type 0 where
  pub came_by : take.number ≡ accepted.number
  pub came_from : take.peer ≡ accepted.peer
  pub owes : take.owes_posted ≡ accepted.owes_posted
  pub came_in : take.tick ≡ tick
  pub goes_to : SameConnection take.handle handle

-- A frame of this connection waits: it is a Take, which stands behind all that wait. Or it doesn't, and nothing changes.
abbrev pub Holds : AcceptedConnection → ConnectionHandle → ℕ → Frame → Bool → List HeldTake → List HeldTake → Type 0
Holds accepted handle tick frame true old new =
    (take : HeldTake) × (frame ≡ ATake take.generation) × IsTakeOf accepted handle tick take × (new ≡ old ++ take ∷ [])
Holds accepted handle tick frame false old new = new ≡ old

-- the Take at this place was answered by the desk at this moment, and waits no more
abbrev pub AnswersAt : Option ℕ → DeskState → List HeldTake → Response → DeskState → List HeldTake → Type 0
AnswersAt (Some place) old takes response new left =
    (take : HeldTake) × (slice_get takes place ≡ Some take) × Answers old take.peer (ATake take.generation) response new
    × (left ≡ remove takes place)
AnswersAt None old takes response new left = ⊥

-- the Take of the connection of this number was answered, if one waited
abbrev pub AnswersOf : ℕ → DeskState → List HeldTake → Option HeldAnswer → DeskState → List HeldTake → Type 0
AnswersOf number old takes (Some held) new left = AnswersAt (position (is_of number) takes) old takes held.answer.response new left
AnswersOf number old takes None new left = (position (is_of number) takes ≡ None) × (new ≡ old) × (left ≡ takes)

-- the answer to a Take that waited, if one did
abbrev pub answer_of : Option HeldAnswer → Option TakeAnswer
answer_of (Some held) = Some held.answer
answer_of None = None

-- whether it wakes the script
abbrev pub answer_wakes : Option HeldAnswer → Bool
answer_wakes (Some held) = held.wakes
answer_wakes None = false

-- the first Take was answered for which the broker had an answer
abbrev pub AnswersHeld : DeskState → List HeldTake → Response → DeskState → List HeldTake → Type 0
AnswersHeld old takes response new left = AnswersAt (position (has_answer old.broker) takes) old takes response new left

-- the Take at this place waits on behind the others; where there is none, nothing changes
abbrev pub WaitsOn : Option ℕ → List HeldTake → List HeldTake → Type 0
WaitsOn (Some place) old new = (take : HeldTake) × (slice_get old place ≡ Some take) × (new ≡ remove old place ++ take ∷ [])
WaitsOn None old new = new ≡ old

-- the first Take was answered that came before this tick
abbrev pub AnswersExpired : ℕ → DeskState → List HeldTake → Response → DeskState → List HeldTake → Type 0
AnswersExpired tick old takes response new left = AnswersAt (position (is_expired tick) takes) old takes response new left
