-- What a wrong body of must-fail/ breaks; an answer makes its refusal cheap.
use Rattle.std.proofs.Common.{rules}
use Rattle.takeover_core.proofs.node.Node.parts_made.Goals as goal

pub returns : goal.returns
returns c = search rules
