-- What a wrong body of must-fail/ breaks; an answer makes its refusal cheap.
use Rattle.std.proofs.Common.{rules}
use Rattle.broker_core.proofs.broker.Broker.claim_refusal.Goals as goal

pub returns-then-generation-ge-LAST_GENERATION : goal.returns-then-generation-ge-LAST_GENERATION
returns-then-generation-ge-LAST_GENERATION c = search rules

pub returns : goal.returns
returns c = search rules
