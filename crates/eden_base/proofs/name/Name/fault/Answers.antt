-- What a wrong body of must-fail/ breaks; an answer makes its refusal cheap.
use Rattle.std.proofs.Common.{rules}
use Rattle.eden_base.proofs.name.Name.fault.Goals as goal

pub returns-then-has_separator : goal.returns-then-has_separator
returns-then-has_separator c = search rules
