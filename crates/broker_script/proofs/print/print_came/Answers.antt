-- What a wrong body of must-fail/ breaks; an answer makes its refusal cheap.
use Rattle.std.proofs.Common.{rules}
use Rattle.broker_script.proofs.print.print_came.Goals as goal

pub returns-in-Lost : goal.returns-in-Lost
returns-in-Lost g c = search rules
