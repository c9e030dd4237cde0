-- What a daemon becomes and says over a list of events. It may be any list: messages that are lost, repeated, late or
-- misdelivered, and calls at any time.
use Rattle.std.specs.Prelude.{◌≢◌, ℕ, ◌==◌, ◌≤◌, Bool, true, false, List, [], ◌∷◌, Option, Some, None, Ok, if◌then◌else◌}
use Rattle.takeover_core.specs.declared.heard.Heard.{Heard as Answer}
use Rattle.takeover_core.specs.declared.heard.Heard.TheVariants.{Say}
use Rattle.takeover_core.specs.declared.message.Message.TheVariants.{Data}
use Rattle.takeover_core.specs.declared.phase.Phase.{Phase}
use Rattle.takeover_core.specs.declared.phase.Phase.TheVariants.{Serving, Draining, Pinged, Making, Holding, Handed, Gone}
use Rattle.takeover_core.specs.Node.{NodeState}
use Rattle.takeover_core.specs.Phases.{Event, Mounted, Claimed, PartsMade, goes_in_parts, after, heard}

-- the daemon after all of these events
abbrev pub after_all : NodeState → List Event → NodeState
after_all node [] = node
after_all node (event ∷ events) = after_all (after node event) events

-- the session whose data is in an answer, if any
abbrev pub data_of : Answer → Option ℕ
data_of (Say (Data s g bytes)) = Some s
data_of answer = None

-- the session whose data a daemon in this phase makes in parts, if any
abbrev pub parts_of : Phase → Option ℕ
parts_of (Making g s v) = if goes_in_parts v then Some s else None
parts_of phase = None

-- the session whose data an event hands over, if any: in one message, which is the answer, or in parts
abbrev pub handover_of : NodeState → Event → Option ℕ
handover_of node PartsMade = parts_of node.phase
handover_of node event = data_of (heard node event)

-- for each event, one after the other, the session whose data it hands over, if any
abbrev pub handovers : NodeState → List Event → List (Option ℕ)
handovers node [] = []
handovers node (event ∷ events) = handover_of node event ∷ handovers (after node event) events

-- the generation at which a daemon in this phase has the seat, as far as it knows
abbrev pub seat_of : Phase → Option ℕ
seat_of (Serving g) = Some g
seat_of (Draining g s v) = Some g
seat_of (Pinged g s v) = Some g
seat_of (Making g s v) = Some g
seat_of (Handed g s) = Some g
seat_of phase = None

-- the session that a daemon in this phase has begun and that has not ended, if any
abbrev pub open_session : Phase → Option ℕ
open_session (Draining g s v) = Some s
open_session (Pinged g s v) = Some s
open_session (Making g s v) = Some s
open_session (Handed g s) = Some s
open_session phase = None

-- the daemon has begun this session, and is no longer in it
pub record HasEnded (session : ℕ) (node : NodeState) : Type 0 where
  pub begun : session ≤ node.sessions
  pub closed : open_session node.phase ≢ Some session

-- a daemon in this phase has handed its data over, may claim, or is gone
abbrev pub is_out : Phase → Bool
is_out (Handed g s) = true
is_out (Holding g) = true
is_out Gone = true
is_out phase = false

-- by this event the broker gave the daemon the seat at this generation: by a mount, or by a claim
abbrev pub is_given : ℕ → Event → Bool
is_given g (Mounted h) = h == g
is_given g (Claimed (Ok h)) = h == g
is_given g event = false

-- by this event a claim succeeded
abbrev pub is_claim : Event → Bool
is_claim (Claimed (Ok g)) = true
is_claim event = false

-- this session's data is handed over
abbrev pub is_handover_of : ℕ → Option ℕ → Bool
is_handover_of session (Some s) = s == session
is_handover_of session None = false
