use Rattle.std.proofs.Common.{arith}
use Rattle.world_script.proofs.ScriptLemmas.{IsSplit-at, IsRest-more}
use Rattle.world_script.proofs.script.split.Goals as goal

pub returns-then-eq-clause-parts : goal.returns-then-eq-clause-parts
returns-then-eq-clause-parts c =
    IsSplit-at c.args.script.now c.loop-rest.rest.now c.first_line.result.0.now c.first_line.result.1.now c.loop-rest.number c.loop-rest.invariant (omega arith) c.first_line.ensures.line c.first_line.ensures.rest cc

pub loop-rest-preserved : goal.loop-rest-preserved
loop-rest-preserved c =
    IsRest-more c.args.script.now c.loop-rest.rest.now c.first_line.result.0.now c.first_line.result.1.now c.loop-rest.number c.loop-rest.invariant (omega arith) c.first_line.ensures.line c.first_line.ensures.rest c.first_line.ensures.shorter cc
