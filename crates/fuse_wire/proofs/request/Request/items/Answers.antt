-- What a wrong body of must-fail/ breaks; an answer makes its refusal cheap.
use Rattle.std.proofs.Common.{rules}
use Rattle.fuse_wire.proofs.request.Request.items.Goals as goal

pub returns-in-Forget-clause-items : goal.returns-in-Forget-clause-items
returns-in-Forget-clause-items c = search rules
