-- What a wrong body of must-fail/ breaks; an answer makes its refusal cheap.
use Rattle.std.proofs.Common.{rules}
use Rattle.script_lines.proofs.event_line.read_forget.Goals as goal

pub returns : goal.returns
returns c = search rules
