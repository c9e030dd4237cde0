-- What a wrong body of must-fail/ breaks; an answer makes its refusal cheap.
use Rattle.std.proofs.Common.{rules}
use Rattle.script_lines.proofs.print.print_happened.Goals as goal

pub returns-in-TookForgets : goal.returns-in-TookForgets
returns-in-TookForgets g c = search rules
