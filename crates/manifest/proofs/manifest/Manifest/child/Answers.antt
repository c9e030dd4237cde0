-- What a wrong body of must-fail/ breaks; an answer makes its refusal cheap.
use Rattle.std.proofs.Common.{rules}
use Rattle.manifest.proofs.manifest.Manifest.child.Goals as goal

pub returns-clause-child : goal.returns-clause-child
returns-clause-child c = search rules
