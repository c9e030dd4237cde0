-- What a wrong body of must-fail/ breaks; an answer makes its refusal cheap.
use Rattle.std.proofs.Common.{rules}
use Rattle.takeover_core.proofs.node.Node.fed.Goals as goal

pub returns-in-Taking-2-clause-after : goal.returns-in-Taking-2-clause-after
returns-in-Taking-2-clause-after c = search rules
