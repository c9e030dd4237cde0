-- What a wrong body of must-fail/ breaks; an answer makes its refusal cheap.
use Rattle.std.proofs.Common.{rules}
use Rattle.world.proofs.world.World.new.Goals as goal

pub returns-clause-new : goal.returns-clause-new
returns-clause-new c = search rules

pub returns-clause-matches : goal.returns-clause-matches
returns-clause-matches c = search rules
