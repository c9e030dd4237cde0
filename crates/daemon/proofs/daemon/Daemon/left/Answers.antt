-- What a wrong body of must-fail/ breaks; an answer makes its refusal cheap.
use Rattle.std.proofs.Common.{rules}
use Rattle.daemon.proofs.daemon.Daemon.left.Goals as goal

pub returns-in-Some-clause-unposted : goal.returns-in-Some-clause-unposted
returns-in-Some-clause-unposted c = search rules
