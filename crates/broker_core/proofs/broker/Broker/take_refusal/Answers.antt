-- What a wrong body of must-fail/ breaks; an answer makes its refusal cheap.
use Rattle.std.proofs.Common.{rules}
use Rattle.broker_core.proofs.broker.Broker.take_refusal.Goals as goal

pub returns-in-Some-Ended : goal.returns-in-Some-Ended
returns-in-Some-Ended c = search rules
