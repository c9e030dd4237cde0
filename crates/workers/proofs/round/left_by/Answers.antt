-- What a wrong body of must-fail/ breaks; an answer makes its refusal cheap.
use Rattle.std.proofs.Common.{rules}
use Rattle.workers.proofs.round.left_by.Goals as goal

pub returns-then-joined-clause-left : goal.returns-then-joined-clause-left
returns-then-joined-clause-left g c = search rules
