-- A daemon's part in takeovers.
use Rattle.std.specs.Prelude.{ℕ, List, refl}
use Rattle.std.specs.Coded.{Coded, code_by, coded×, coded_list, coded_ℕ}
use Rattle.takeover_core.specs.declared.phase.Phase.{Phase}
use Rattle.takeover_core.specs.declared.phase.Phase.TheVariants.{Waiting}
use Rattle.takeover_core.specs.contracts.phase.Phase.{the_row}

-- the phase; the image versions that the daemon reads and writes; and how many sessions it has begun, which is the
-- number of the last session
pub record NodeState : Type 0 where
  pub phase : Phase
  pub versions : List ℕ
  pub sessions : ℕ

-- the coding of a state as a tuple, for the type that contracts see as a state
abbrev pub node_state_code : Coded NodeState
node_state_code =
    code_by (Phase × (List ℕ × ℕ)) (coded× the_row.coded (coded× (coded_list coded_ℕ) coded_ℕ))
    (λ n. (n.phase, (n.versions, n.sessions)))
    (λ p. record { phase = p.0; versions = p.1.0; sessions = p.1.1 })
    (λ _. refl)

-- the state of a daemon that was just started
abbrev pub new_node : List ℕ → NodeState
new_node versions = record { phase = Waiting; versions = versions; sessions = 0 }
