-- What a wrong body of must-fail/ breaks; an answer makes its refusal cheap.
use Rattle.std.proofs.Common.{rules}
use Rattle.fuse_wire.proofs.reply_to_fault.errno_of_fault.Goals as goal

pub returns-in-NoMemory : goal.returns-in-NoMemory
returns-in-NoMemory c = search rules
