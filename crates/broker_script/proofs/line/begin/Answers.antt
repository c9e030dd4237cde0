-- What a wrong body of must-fail/ breaks; an answer makes its refusal cheap.
use Rattle.std.proofs.Common.{rules}
use Rattle.broker_script.proofs.line.begin.Goals as goal

pub returns-in-Seat : goal.returns-in-Seat
returns-in-Seat c = search rules
