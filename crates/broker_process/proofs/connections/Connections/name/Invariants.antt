-- The connections so far are changed.
use Rattle.std.proofs.Common.{◌≡◌, ◌++◌, map, take, drop}
use Rattle.broker_process.specs.Connections.{named}
use Rattle.broker_process.proofs.connections.Connections.name.Given as goal

abbrev pub invariant-loop-connection : goal.invariant-loop-connection
invariant-loop-connection l =
    l.connection-items ≡ map (named l.number l.peer) (take l.connection-index l.fn.self.list.items) ++ drop l.connection-index l.fn.self.list.items
