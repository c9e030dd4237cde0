-- A daemon by its parts.
use Rattle.std.proofs.Common.{ℕ, List}
use Rattle.takeover_core.specs.declared.phase.Phase.{Phase}
use Rattle.takeover_core.specs.Node.{NodeState}

-- a daemon by its parts
abbrev pub node_of : List ℕ → ℕ → Phase → NodeState
node_of versions sessions phase = record { phase = phase; versions = versions; sessions = sessions }
