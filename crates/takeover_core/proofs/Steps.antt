-- What one event does to the seat, to sessions and to the data that may still come.
use Rattle.std.proofs.Common.{◌≡◌, ◌⊎◌, ℕ, ◌+◌, ◌==◌, ◌<◌, ◌≤◌, nat_lt, Bool, true, false, ◌||◌, List, Some, Ok, Err, if◌then◌else◌, arith, rules}
use Rattle.eden_base.specs.declared.claim.ClaimFault.TheVariants.{Unanswered}
use Rattle.takeover_core.specs.declared.phase.Phase.{Phase}
use Rattle.takeover_core.specs.declared.phase.Phase.TheVariants.{Waiting, Chosen, Taking, Reading, Raising, Holding, Serving, Draining, Pinged, Making, Handed}
use Rattle.takeover_core.specs.declared.message.Message.TheVariants.{Offer, Choice, Ready, Pong, Data, Part, Failed}
use Rattle.takeover_core.specs.Phases.{Event, Mounted, Hear, Fed, Raised, Drained, DataMade, PartsMade, Claimed, after, phase_after}
use Rattle.takeover_core.specs.Histories.{open_session, seat_of, is_given, handover_of, is_handover_of}
use Rattle.takeover_core.specs.Node.{NodeState}
use Rattle.takeover_core.proofs.Rows.{node_of}

-- the session is open, and its data is not out
abbrev pub is_ahead : ℕ → Phase → Bool
is_ahead session (Draining g s v) = s == session
is_ahead session (Pinged g s v) = s == session
is_ahead session (Making g s v) = s == session
is_ahead session phase = false

-- how often the data of a session may still be made
abbrev pub to_come : ℕ → NodeState → ℕ
to_come session node = if nat_lt node.sessions session || is_ahead session node.phase then 1 else 0

-- what one event does: the seat was had or is given; sessions rise; an open session was open or is a new one; and each
-- data that is handed over takes one of those that may still come, if open sessions are begun ones
pub record IsStep (vs : List ℕ) (n : ℕ) (phase : Phase) (event : Event) (h k : ℕ) : Type 0 where
  pub seat : seat_of (phase_after (node_of vs n phase) event) ≡ Some h → (seat_of phase ≡ Some h) ⊎ (is_given h event ≡ true)
  pub rise : n ≤ (after (node_of vs n phase) event).sessions
  pub session : open_session (phase_after (node_of vs n phase) event) ≡ Some k → (open_session phase ≡ Some k) ⊎ ((n < k) × (k ≤ (after (node_of vs n phase) event).sessions))
  pub one : (open_session phase ≡ Some k → k ≤ n) → (if is_handover_of k (handover_of (node_of vs n phase) event) then 1 else 0) + to_come k (after (node_of vs n phase) event) ≤ to_come k (node_of vs n phase)

pub step : (vs : List ℕ) (n : ℕ) (phase : Phase) (event : Event) (h k : ℕ) → IsStep vs n phase event h k
step vs n Waiting (Mounted g) h k = grind (arith, rules)
step vs n Waiting (Hear (Choice t v)) h k = grind (arith, rules)
step vs n (Chosen s v) (Hear (Ready t g)) h k = grind (arith, rules)
step vs n (Chosen s v) (Hear (Data t g bytes)) h k = grind (arith, rules)
step vs n (Chosen s v) (Hear (Failed t)) h k = grind (arith, rules)
step vs n (Chosen s v) (Hear (Part t g i m bytes)) h k = grind (arith, rules)
step vs n (Reading s g v i m) (Hear (Part t c j l bytes)) h k = grind (arith, rules)
step vs n (Reading s g v i m) (Hear (Failed t)) h k = grind (arith, rules)
step vs n (Taking s g v i m) (Fed true) h k = grind (arith, rules)
step vs n (Raising s g) (Raised true) h k = grind (arith, rules)
step vs n (Serving g) (Hear (Offer offered)) h k = grind (arith, rules)
step vs n (Draining g s v) (Drained hand unposted) h k = grind (arith, rules)
step vs n (Pinged g s v) (Hear (Pong t)) h k = grind (arith, rules)
step vs n (Making g s v) (DataMade bytes) h k = grind (arith, rules)
step vs n (Making g s v) PartsMade h k = grind (arith, rules)
step vs n (Draining g s v) (Hear (Failed t)) h k = grind (arith, rules)
step vs n (Pinged g s v) (Hear (Failed t)) h k = grind (arith, rules)
step vs n (Making g s v) (Hear (Failed t)) h k = grind (arith, rules)
step vs n (Handed g s) (Hear (Failed t)) h k = grind (arith, rules)
step vs n (Holding g) (Claimed (Ok claimed)) h k = grind (arith, rules)
step vs n (Holding g) (Claimed (Err (Unanswered asks))) h k = grind (arith, rules)
step vs n phase event h k = grind (arith, rules)
