-- What a wrong body of must-fail/ breaks; an answer makes its refusal cheap.
use Rattle.std.proofs.Common.{rules}
use Rattle.fuse_wire.proofs.reply.Answer.given_out.Goals as goal

pub returns-in-Attrs : goal.returns-in-Attrs
returns-in-Attrs c = search rules
