-- What a wrong body of must-fail/ breaks; an answer makes its refusal cheap.
use Rattle.std.proofs.Common.{rules}
use Rattle.mount_wire.specs.Init.{agreement_of}
use Rattle.mount_wire.proofs.agreement.agree.Goals as goal

pub returns : goal.returns
unfolding agreement_of
returns c = search rules
