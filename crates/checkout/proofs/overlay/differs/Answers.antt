-- What a wrong body of planted/ breaks; an answer makes its refusal cheap.
use Rattle.std.proofs.Common.{rules}
use Rattle.checkout.proofs.overlay.differs.Goals as goal

pub returns : goal.returns
returns c = search rules
