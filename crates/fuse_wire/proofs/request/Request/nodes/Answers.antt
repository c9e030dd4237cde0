-- What a wrong body of must-fail/ breaks; an answer makes its refusal cheap.
use Rattle.std.proofs.Common.{rules}
use Rattle.fuse_wire.proofs.request.Request.nodes.Goals as goal

pub returns-in-Forget : goal.returns-in-Forget
returns-in-Forget c = search rules
