-- What a wrong body of must-fail/ breaks; an answer makes its refusal cheap.
use Rattle.std.proofs.Common.{rules}
use Rattle.takeover_core.proofs.node.Node.may_take.Goals as goal

pub returns-in_default : goal.returns-in_default
returns-in_default c = search rules

pub returns-in-Serving-2 : goal.returns-in-Serving-2
returns-in-Serving-2 c = search rules
