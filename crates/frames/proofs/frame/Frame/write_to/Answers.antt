-- What a wrong body of must-fail/ breaks; an answer makes its refusal cheap.
use Rattle.std.proofs.Common.{rules}
use Rattle.frames.proofs.frame.Frame.write_to.Goals as goal

pub put_frame-requires-clause-len : goal.put_frame-requires-clause-len
put_frame-requires-clause-len c = search rules
