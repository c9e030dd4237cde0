-- What a wrong body of must-fail/ breaks; an answer makes its refusal cheap.
use Rattle.std.proofs.Common.{rules}
use Rattle.broker_script.proofs.print.print_begun.Goals as goal

pub returns-in-Forgot : goal.returns-in-Forgot
returns-in-Forgot g c = search rules
