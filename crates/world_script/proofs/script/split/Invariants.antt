use Rattle.std.proofs.Common.{length}
use Rattle.world_script.proofs.ScriptLemmas.{IsRest}
use Rattle.world_script.proofs.script.split.Given as goal

abbrev pub invariant-loop-rest : goal.invariant-loop-rest
invariant-loop-rest l = IsRest l.script l.rest l.number

abbrev pub decreases-loop-rest : goal.decreases-loop-rest
decreases-loop-rest l = length l.rest
