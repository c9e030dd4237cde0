-- What a wrong body of must-fail/ breaks; an answer makes its refusal cheap.
use Rattle.std.proofs.Common.{rules}
use Rattle.takeover_core.proofs.node.Node.give_up.Goals as goal

pub returns-in-Handed-clause-after : goal.returns-in-Handed-clause-after
returns-in-Handed-clause-after c = search rules
