-- What a wrong body of must-fail/ breaks; an answer makes its refusal cheap.
use Rattle.std.proofs.Common.{rules}
use Rattle.takeover_core.proofs.node.Node.hear_offer.Goals as goal

pub returns-in-Draining-clause-heard : goal.returns-in-Draining-clause-heard
returns-in-Draining-clause-heard c = search rules
