-- What a wrong body of must-fail/ breaks; an answer makes its refusal cheap.
use Rattle.std.proofs.Common.{rules}
use Rattle.world.proofs.world.World.step.Goals as goal

pub returns-clause-step : goal.returns-clause-step
returns-clause-step c = search rules
