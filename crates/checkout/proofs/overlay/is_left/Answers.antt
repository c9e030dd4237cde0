-- What a wrong body of must-fail/ breaks; an answer makes its refusal cheap.
use Rattle.std.proofs.Common.{rules}
use Rattle.checkout.proofs.overlay.is_left.Goals as goal

pub returns-then-is_line : goal.returns-then-is_line
returns-then-is_line c = search rules
