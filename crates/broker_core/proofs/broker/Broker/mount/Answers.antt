-- What a wrong body of must-fail/ breaks; an answer makes its refusal cheap.
use Rattle.std.proofs.Common.{rules}
use Rattle.broker_core.proofs.broker.Broker.mount.Goals as goal

pub returns-clause-generation : goal.returns-clause-generation
returns-clause-generation c = search rules

pub returns-clause-mounted : goal.returns-clause-mounted
returns-clause-mounted c = search rules
