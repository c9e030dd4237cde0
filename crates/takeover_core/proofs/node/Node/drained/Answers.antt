-- What a wrong body of must-fail/ breaks; an answer makes its refusal cheap.
use Rattle.std.proofs.Common.{rules}
use Rattle.takeover_core.proofs.node.Node.drained.Goals as goal

pub returns-else-unposted-gt0-clause-ready : goal.returns-else-unposted-gt0-clause-ready
returns-else-unposted-gt0-clause-ready c = search rules

pub returns-else-unposted-gt0-clause-nothing_left : goal.returns-else-unposted-gt0-clause-nothing_left
returns-else-unposted-gt0-clause-nothing_left c = search rules

pub returns-else-unposted-gt0-clause-after : goal.returns-else-unposted-gt0-clause-after
returns-else-unposted-gt0-clause-after c = search rules
