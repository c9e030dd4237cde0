-- A daemon has the seat only where the broker gave it.
use Rattle.std.proofs.Common.{◌≡◌, ◌⊎◌, ℕ, true, List, [], ◌∷◌, Some, refl, inl, inr}
use Rattle.std.proofs.lemmas.Bool.{or_right}
use Rattle.std.specs.List.{list_any}
use Rattle.takeover_core.specs.Phases.{Event, after}
use Rattle.takeover_core.specs.Histories.{after_all, seat_of, is_given}
use Rattle.takeover_core.specs.Laws.{ServesOnlyWhereGiven}
use Rattle.takeover_core.specs.Node.{NodeState, new_node}
use Rattle.takeover_core.proofs.Steps.{IsStep, step}

seat_all : (events : List Event) (node : NodeState) (g : ℕ) → seat_of (after_all node events).phase ≡ Some g → (seat_of node.phase ≡ Some g) ⊎ (list_any (is_given g) events ≡ true)
seat_all [] node g e = inl e
seat_all (event ∷ events) node g e =
    let here : IsStep node.versions node.sessions node.phase event g 0 = step node.versions node.sessions node.phase event g 0 in
    elim (seat_all events (after node event) g e) [
      | inl later ↦ elim (here.seat later) [ inl before ↦ inl before | inr given ↦ inr (rw given refl) ]
      | inr later ↦ inr (or_right (is_given g event) (list_any (is_given g) events) later)
    ]

pub serves_only_where_given_lem : ServesOnlyWhereGiven
serves_only_where_given_lem versions events g e =
    elim (seat_all events (new_node versions) g e) [ inl none ↦ cc | inr given ↦ given ]
