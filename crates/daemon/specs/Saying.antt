-- What a daemon says to a message, and what it becomes by the message. (This project's own.)
use Rattle.std.specs.Prelude.{List, [], ◌∷◌, Option, Some, None}
use Rattle.takeover_core.specs.Node.{NodeState}
use Rattle.takeover_core.specs.declared.message.Message.{Message}
use Rattle.daemon.specs.Daemon.{DaemonState, read_in}
use Rattle.daemon.specs.Server.{ServerState}
use Rattle.daemon.specs.declared.turn.Reaction.{Reaction}
use Rattle.daemon.specs.declared.turn.Reaction.TheVariants.{Accepts, Says}

-- the messages that a reaction says, in order
abbrev pub what_is_said : Reaction → List Message
what_is_said (Says said others) = said ∷ others
what_is_said reaction = []

-- the reaction that says the message, if there is one, and else the reaction that says nothing
abbrev pub of_said : Option Message → Reaction
of_said (Some said) = Says said []
of_said None = Accepts

-- what a daemon becomes by a message: its part in takeovers; what it holds, if it took data over; and its reaction
pub record TurnState : Type 0 where
  pub node : NodeState
  pub held : Option ServerState
  pub reaction : Reaction

-- what a daemon serves after a turn: what it took over, or else what it served before
abbrev pub held_or : Option ServerState → Option ServerState → Option ServerState
held_or (Some held) before = Some held
held_or None before = before

-- the daemon after a turn
abbrev pub turned : DaemonState → TurnState → DaemonState
turned daemon turn = record {
  node = turn.node;
  server = held_or turn.held daemon.server;
  reading = read_in turn.node.phase daemon.reading;
}
