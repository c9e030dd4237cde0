-- What a wrong body of must-fail/ breaks; an answer makes its refusal cheap.
use Rattle.std.proofs.Common.{rules}
use Rattle.manifest.proofs.manifest.Manifest.content.Goals as goal

pub returns-clause-content : goal.returns-clause-content
returns-clause-content c = search rules
