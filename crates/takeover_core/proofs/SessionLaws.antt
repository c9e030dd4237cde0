-- Sessions only rise: one that ended is never taken up again, and its data is made at most once.
use Rattle.std.proofs.Common.{◌≡◌, ℕ, ◌+◌, ◌≤◌, List, [], ◌∷◌, Some, count_by, if◌then◌else◌, inl, inr, arith, rules}
use Rattle.std.proofs.lemmas.List.Sums.{sum_by-cons}
use Rattle.takeover_core.specs.Phases.{Event, after}
use Rattle.takeover_core.specs.Histories.{after_all, handovers, handover_of, open_session, HasEnded, is_handover_of}
use Rattle.takeover_core.specs.Laws.{EndedStaysEnded, MakesDataOnce}
use Rattle.takeover_core.specs.Node.{NodeState, new_node}
use Rattle.takeover_core.proofs.Steps.{IsStep, step, to_come}

ended_step : (session : ℕ) (node : NodeState) (event : Event) → HasEnded session node → HasEnded session (after node event)
ended_step session node event ended =
    let here : IsStep node.versions node.sessions node.phase event 0 session = step node.versions node.sessions node.phase event 0 session in
    record {
      begun = omega (arith, ended.begun, here.rise);
      closed =
          λ e.
          elim (here.session e) [
            | inl before ↦ ended.closed before
            | inr next ↦ omega (arith, ended.begun, next.0)
          ];
    }

ended_all : (events : List Event) (session : ℕ) (node : NodeState) → HasEnded session node → HasEnded session (after_all node events)
ended_all [] session node ended = ended
ended_all (event ∷ events) session node ended =
    ended_all events session (after node event) (ended_step session node event ended)

pub ended_stays_ended_lem : EndedStaysEnded
ended_stays_ended_lem session node events ended = ended_all events session node ended

-- an open session is one that was begun
abbrev pub IsOrderly : NodeState → Type 0
IsOrderly node = (k : ℕ) → open_session node.phase ≡ Some k → k ≤ node.sessions

orderly_step : (node : NodeState) (event : Event) → IsOrderly node → IsOrderly (after node event)
orderly_step node event orderly k e =
    let here : IsStep node.versions node.sessions node.phase event 0 k = step node.versions node.sessions node.phase event 0 k in
    elim (here.session e) [
      | inl before ↦ omega (arith, here.rise, orderly k before)
      | inr next ↦ next.1
    ]

data_all : (events : List Event) (session : ℕ) (node : NodeState) → IsOrderly node → count_by (is_handover_of session) (handovers node events) ≤ to_come session node
data_all [] session node orderly = grind (arith, rules)
data_all (event ∷ events) session node orderly =
    let here : IsStep node.versions node.sessions node.phase event 0 session = step node.versions node.sessions node.phase event 0 session in
    let one : (if is_handover_of session (handover_of node event) then 1 else 0) + to_come session (after node event) ≤ to_come session node = here.one (orderly session) in
    let later : count_by (is_handover_of session) (handovers (after node event) events) ≤ to_come session (after node event) = data_all events session (after node event) (orderly_step node event orderly) in
    let first : count_by (is_handover_of session) (handovers node (event ∷ events)) ≡ (if is_handover_of session (handover_of node event) then 1 else 0) + count_by (is_handover_of session) (handovers (after node event) events) = sum_by-cons (λ handover. if is_handover_of session handover then 1 else 0) (handover_of node event) (handovers (after node event) events) in
    omega (arith, first, one, later)

pub makes_data_once_lem : MakesDataOnce
makes_data_once_lem versions events session =
    let all : count_by (is_handover_of session) (handovers (new_node versions) events) ≤ to_come session (new_node versions) = data_all events session (new_node versions) (λ k e. cc) in
    grind (arith, rules)
