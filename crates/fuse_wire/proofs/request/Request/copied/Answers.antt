-- What a wrong body of must-fail/ breaks; an answer makes its refusal cheap.
use Rattle.std.proofs.Common.{rules}
use Rattle.fuse_wire.proofs.request.Request.copied.Goals as goal

pub returns-in-Getattr : goal.returns-in-Getattr
returns-in-Getattr c = search rules
