-- One event is moves that may happen in each world that the state matches.
use Rattle.std.proofs.Common.{rules}
use Rattle.world.proofs.InTurn.{step-matched}
use Rattle.world.proofs.world.World.step_into.Goals as goal

pub returns-clause-moves_on : goal.returns-clause-moves_on
returns-clause-moves_on c = λ ideal matches. step-matched ideal _ _ _ _ matches c.decide.ensures.step

-- What a wrong body of must-fail/ breaks; an answer makes its refusal cheap.
pub decide-requires : goal.decide-requires
decide-requires c = search rules
