-- What a wrong body of must-fail/ breaks; an answer makes its refusal cheap.
use Rattle.std.proofs.Common.{rules}
use Rattle.takeover_core.proofs.node.Node.raised.Goals as goal

pub returns-in-Raising-clause-message : goal.returns-in-Raising-clause-message
returns-in-Raising-clause-message c = search rules

pub returns-in-Raising-clause-after : goal.returns-in-Raising-clause-after
returns-in-Raising-clause-after c = search rules

pub returns-in-Raising-2-clause-message : goal.returns-in-Raising-2-clause-message
returns-in-Raising-2-clause-message c = search rules

pub returns-in-Raising-2-clause-after : goal.returns-in-Raising-2-clause-after
returns-in-Raising-2-clause-after c = search rules
