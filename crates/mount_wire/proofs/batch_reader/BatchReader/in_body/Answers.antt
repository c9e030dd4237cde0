-- What a wrong body of must-fail/ breaks; an answer makes its refusal cheap.
use Rattle.std.proofs.Common.{rules, arith}
use Rattle.mount_wire.specs.Batches.{items_in}
use Rattle.mount_wire.proofs.batch_reader.BatchReader.in_body.Goals as goal

pub invariant_of-result : goal.invariant_of-result
invariant_of-result c = omega arith

pub returns : goal.returns
unfolding items_in
returns c = search rules
