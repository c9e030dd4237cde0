-- What a wrong body of must-fail/ breaks; an answer makes its refusal cheap.
use Rattle.std.proofs.Common.{rules}
use Rattle.takeover_core.proofs.node.Node.data_made.Goals as goal

pub returns-clause-after : goal.returns-clause-after
returns-clause-after c = search rules
