-- What a wrong body of must-fail/ breaks; an answer makes its refusal cheap.
use Rattle.std.proofs.Common.{rules}
use Rattle.mount_wire.specs.Init.{offer_in}
use Rattle.mount_wire.proofs.offer.offer_in.Goals as goal

pub returns : goal.returns
unfolding offer_in
returns c = search rules
