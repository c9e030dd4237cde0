-- What a wrong body of must-fail/ breaks; an answer makes its refusal cheap.
use Rattle.std.proofs.Common.{rules}
use Rattle.broker_core.proofs.broker.Broker.claim.Goals as goal

pub returns-clause-generation : goal.returns-clause-generation
returns-clause-generation c = search rules

pub returns-clause-claimed : goal.returns-clause-claimed
returns-clause-claimed c = search rules
