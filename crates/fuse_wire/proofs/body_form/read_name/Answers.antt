-- What a wrong body of must-fail/ breaks; an answer makes its refusal cheap.
use Rattle.std.proofs.Common.{rules}
use Rattle.fuse_wire.specs.RequestBody.{name_of}
use Rattle.fuse_wire.proofs.body_form.read_name.Goals as goal

pub returns-in-Some : goal.returns-in-Some
unfolding name_of
returns-in-Some g c = search rules

pub returns-in-Ok : goal.returns-in-Ok
unfolding name_of
returns-in-Ok g c = search rules

pub returns-in-Err : goal.returns-in-Err
unfolding name_of
returns-in-Err g c = search rules
