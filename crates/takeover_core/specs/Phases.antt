-- The phases of a takeover, as one table. (This project's own.)
use Rattle.std.specs.Prelude.{ℕ, ◌+◌, ◌==◌, Bool, true, false, ◌&&◌, ◌||◌, nat_lt, nat_le, List, Option, Some, None, is_none, unwrap_or, Result, Ok, Err, if◌then◌else◌}
use Rattle.eden_base.specs.Limits.{last_generation, last_session}
use Rattle.eden_base.specs.declared.claim.ClaimFault.{ClaimFault}
use Rattle.eden_base.specs.declared.claim.ClaimFault.TheVariants.{Unanswered}
use Rattle.takeover_core.specs.declared.phase.Phase.{Phase}
use Rattle.takeover_core.specs.declared.phase.Phase.TheVariants.{Waiting, Chosen, Taking, Reading, Raising, Holding, Serving, Draining, Pinged, Making, Handed, Gone}
use Rattle.takeover_core.specs.declared.message.Message.{Message}
use Rattle.takeover_core.specs.declared.message.Message.TheVariants.{Offer, Choice, NoCommon, Busy, Ready, Pong, Data, Part, Failed}
use Rattle.takeover_core.specs.declared.heard.Heard.{Heard as Answer}
use Rattle.takeover_core.specs.declared.node.DrainFault.{DrainFault}
use Rattle.takeover_core.specs.declared.node.DrainFault.TheVariants.{WrongPhase, Undrained}
use Rattle.takeover_core.specs.declared.heard.Heard.TheVariants.{Ignored, Heard, Say, MakeData, GotData, GotPart}
use Rattle.takeover_core.specs.Node.{NodeState}
use Rattle.takeover_core.specs.Versions.{is_among, greatest_common}

-- what happens to a daemon: a message, or one of the calls of its program
pub data Event : Type 0 where
  Mounted : (generation : ℕ) → Event
  Hear : (message : Message) → Event
  Fed : (succeeded : Bool) → Event
  Raised : (succeeded : Bool) → Event
  Drained : (in_hand unposted : ℕ) → Event
  DataMade : (bytes : List ℕ) → Event
  PartsMade : Event
  DataFailed : Event
  GiveUp : Event
  Claimed : (answer : Result ℕ ClaimFault) → Event
  Crash : Event

-- the data of this version goes in one message
abbrev pub goes_whole : ℕ → Bool
goes_whole version = version == 1

-- the data of this version goes in numbered parts
abbrev pub goes_in_parts : ℕ → Bool
goes_in_parts version = nat_le 2 version

-- the greatest count of parts of a text
abbrev pub most_parts : ℕ
most_parts = 65536

-- a text may have this count of parts
abbrev pub is_part_count : ℕ → Bool
is_part_count count = nat_le 1 count && nat_le count most_parts

-- a row of the table: the next phase, or the same one, or the first phase of a new session; and the answer
pub data Row : Type 0 where
  Stays : Answer → Row
  Goes : Phase → Answer → Row
  Begins : (session : ℕ) → Phase → Answer → Row

-- the row for all that is ignored and changes nothing
abbrev pub ignored : Row
ignored = Stays Ignored

-- this row if the condition holds, else the row for what is ignored
abbrev pub provided : Bool → Row → Row
provided condition line = if condition then line else ignored

-- no session is left, or no generation for a claim that would follow
abbrev pub is_used_up : NodeState → ℕ → Bool
is_used_up node g = node.sessions == last_session || g == last_generation

-- the row of a new session at this generation with this version, whose answer is a Choice
abbrev pub begins : ℕ → ℕ → ℕ → Row
begins s g v = Begins s (Draining g s v) (Say (Choice s v))

-- the phase after a part was read: Reading for the next part, or Raising after the last
abbrev pub behind_part : ℕ → ℕ → ℕ → ℕ → ℕ → Phase
behind_part s g v i n = if nat_lt i n then Reading s g v (i + 1) n else Raising s g

-- the table: the next phase after an event, and the daemon's answer; the first row that fits decides
abbrev pub row : NodeState → Phase → Event → Row
row node Waiting (Mounted g) = Goes (Serving g) Heard
row node Waiting (Hear (Choice t v)) = provided (is_among node.versions v) (Goes (Chosen t v) Heard)
row node Waiting (Hear NoCommon) = Goes Gone Heard
row node Waiting (Hear Busy) = Goes Gone Heard
row node (Chosen s v) (Hear (Ready t g)) = provided (t == s) (Stays (Say (Pong s)))
row node (Chosen s v) (Hear (Data t g bytes)) =
    provided (t == s && goes_whole v) (Goes (Raising s g) (GotData s g v))
row node (Chosen s v) (Hear (Part t g i n bytes)) =
    provided (t == s && goes_in_parts v && i == 1 && is_part_count n) (Goes (Taking s g v 1 n) (GotPart s g v 1 n))
row node (Reading s g v i n) (Hear (Part t h j m bytes)) =
    provided (t == s && h == g && j == i && m == n) (Goes (Taking s g v i n) (GotPart s g v i n))
row node (Taking s g v i n) (Fed true) = Goes (behind_part s g v i n) Heard
row node (Taking s g v i n) (Fed false) = Goes Gone (Say (Failed s))
row node (Chosen s v) (Hear (Failed t)) = provided (t == s) (Goes Gone Heard)
row node (Reading s g v i n) (Hear (Failed t)) = provided (t == s) (Goes Gone Heard)
row node (Raising s g) (Raised true) = Goes (Holding g) Heard
row node (Raising s g) (Raised false) = Goes Gone (Say (Failed s))
row node (Serving g) (Hear (Offer offered)) =
    if is_none (greatest_common node.versions offered) then Stays (Say NoCommon)
    else if is_used_up node g then Stays (Say Busy)
    else begins (node.sessions + 1) g (unwrap_or (greatest_common node.versions offered) 0)
row node (Draining g s v) (Hear (Offer offered)) = Stays (Say Busy)
row node (Pinged g s v) (Hear (Offer offered)) = Stays (Say Busy)
row node (Making g s v) (Hear (Offer offered)) = Stays (Say Busy)
row node (Handed g s) (Hear (Offer offered)) = Stays (Say Busy)
row node (Draining g s v) (Drained hand unposted) =
    provided (hand == 0 && unposted == 0) (Goes (Pinged g s v) (Say (Ready s g)))
row node (Pinged g s v) (Hear (Pong t)) = provided (t == s) (Goes (Making g s v) (MakeData s g v))
row node (Making g s v) (DataMade bytes) = provided (goes_whole v) (Goes (Handed g s) (Say (Data s g bytes)))
row node (Making g s v) PartsMade = provided (goes_in_parts v) (Goes (Handed g s) Heard)
row node (Making g s v) DataFailed = Goes (Serving g) (Say (Failed s))
row node (Draining g s v) (Hear (Failed t)) = provided (t == s) (Goes (Serving g) Heard)
row node (Pinged g s v) (Hear (Failed t)) = provided (t == s) (Goes (Serving g) Heard)
row node (Making g s v) (Hear (Failed t)) = provided (t == s) (Goes (Serving g) Heard)
row node (Draining g s v) GiveUp = Goes (Serving g) (Say (Failed s))
row node (Pinged g s v) GiveUp = Goes (Serving g) (Say (Failed s))
row node (Making g s v) GiveUp = Goes (Serving g) (Say (Failed s))
row node (Handed g s) (Hear (Failed t)) = provided (t == s) (Goes (Holding g) Heard)
row node (Handed g s) GiveUp = Goes (Holding g) (Say (Failed s))
row node (Holding g) (Claimed (Ok h)) = Goes (Serving h) Heard
row node (Holding g) (Claimed (Err (Unanswered n))) = Stays Heard
row node (Holding g) (Claimed (Err fault)) = Goes Gone Heard
row node Waiting GiveUp = Goes Gone Heard
row node (Chosen s v) GiveUp = Goes Gone Heard
row node (Reading s g v i n) GiveUp = Goes Gone Heard
row node phase Crash = Goes Gone Heard
row node phase event = ignored

-- the daemon after an event that this row answers
abbrev pub after_row : NodeState → Row → NodeState
after_row node (Stays answer) = node
after_row node (Goes phase answer) = record node { phase = phase }
after_row node (Begins session phase answer) = record node { phase = phase; sessions = session }

-- the answer that this row gives
abbrev pub answer_of : Row → Answer
answer_of (Stays answer) = answer
answer_of (Goes phase answer) = answer
answer_of (Begins session phase answer) = answer

-- the daemon after an event
abbrev pub after : NodeState → Event → NodeState
after node event = after_row node (row node node.phase event)

-- the phase of a daemon after an event
abbrev pub phase_after : NodeState → Event → Phase
phase_after node event = (after node event).phase

-- the answer of a daemon to an event
abbrev pub heard : NodeState → Event → Answer
heard node event = answer_of (row node node.phase event)

-- the message that is said, if any
abbrev pub said : Answer → Option Message
said (Say message) = Some message
said answer = None

-- what keeps a daemon in this phase from being drained, if anything does
abbrev pub drain_fault : Phase → ℕ → ℕ → Option DrainFault
drain_fault (Draining g s v) hand unposted =
    if hand == 0 && unposted == 0 then None else Some (Undrained hand unposted)
drain_fault phase hand unposted = Some WrongPhase

-- a daemon in this phase has all the data, and reads and restores it
abbrev pub is_raising : Phase → Bool
is_raising (Raising s g) = true
is_raising phase = false

-- a daemon in this phase reads a part
abbrev pub is_taking : Phase → Bool
is_taking (Taking s g v i n) = true
is_taking phase = false

-- a daemon in this phase makes the data
abbrev pub is_making : Phase → Bool
is_making (Making g s v) = true
is_making phase = false

-- a daemon in this phase makes data that goes in one message
abbrev pub is_making_whole : Phase → Bool
is_making_whole (Making g s v) = goes_whole v
is_making_whole phase = false

-- a daemon in this phase makes data that goes in parts
abbrev pub is_making_parts : Phase → Bool
is_making_parts (Making g s v) = goes_in_parts v
is_making_parts phase = false

-- a daemon in this phase may claim the seat
abbrev pub is_holding : Phase → Bool
is_holding (Holding g) = true
is_holding phase = false

-- a daemon in this phase may take requests
abbrev pub may_take : Phase → Bool
may_take (Serving g) = true
may_take (Draining g s v) = true
may_take phase = false

-- the generation from which a daemon in this phase wants to claim the seat, if it wants to
abbrev pub claim_wanted : Phase → Option ℕ
claim_wanted (Holding g) = Some g
claim_wanted phase = None
