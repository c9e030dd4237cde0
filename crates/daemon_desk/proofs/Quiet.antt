-- While workers may take, a message neither makes nor brings data, and workers may still take.
use Rattle.std.proofs.Common.{◌≡◌, ℕ, true, false, List, rules}
use Rattle.takeover_core.specs.declared.message.Message.{Message}
use Rattle.takeover_core.specs.declared.message.Message.TheVariants.{Offer, Failed}
use Rattle.takeover_core.specs.declared.phase.Phase.{Phase}
use Rattle.takeover_core.specs.declared.phase.Phase.TheVariants.{Serving, Draining}
use Rattle.takeover_core.specs.Node.{NodeState}
use Rattle.takeover_core.specs.Phases.{Event, Hear, GiveUp, heard, may_take, phase_after}
use Rattle.daemon.specs.Talking.{brings_data}

-- the state of a node, by its parts
abbrev pub node_of : List ℕ → ℕ → Phase → NodeState
node_of versions sessions phase = record { phase = phase; versions = versions; sessions = sessions }

-- an event brings no data, and workers may still take after it
pub record IsQuiet (node : NodeState) (event : Event) : Type 0 where
  pub no_data : brings_data (heard node event) ≡ false
  pub may_take : may_take (phase_after node event) ≡ true

pub quiet : (versions : List ℕ) (sessions : ℕ) (phase : Phase) (said : Message) → may_take phase ≡ true → IsQuiet (node_of versions sessions phase) (Hear said)
quiet versions sessions (Serving g) (Offer offered) may = grind rules
quiet versions sessions (Draining g s v) (Failed t) may = grind rules
quiet versions sessions phase said may = grind rules

pub quiet_end : (versions : List ℕ) (sessions : ℕ) (phase : Phase) → may_take phase ≡ true → IsQuiet (node_of versions sessions phase) GiveUp
quiet_end versions sessions (Serving g) may = grind rules
quiet_end versions sessions phase may = grind rules
