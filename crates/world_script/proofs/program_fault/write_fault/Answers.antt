-- What a wrong body of must-fail/ breaks; an answer makes its refusal cheap.
use Rattle.std.proofs.Common.{rules}
use Rattle.world_script.proofs.program_fault.write_fault.Goals as goal

pub returns : goal.returns
returns g c = search rules
