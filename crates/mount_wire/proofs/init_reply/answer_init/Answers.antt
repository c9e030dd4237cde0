-- What a wrong body of must-fail/ breaks; an answer makes its refusal cheap.
use Rattle.std.proofs.Common.{rules}
use Rattle.mount_wire.proofs.init_reply.answer_init.Goals as goal

pub returns-in-Err : goal.returns-in-Err
returns-in-Err c = search rules
