-- What a wrong body of must-fail/ breaks; an answer makes its refusal cheap.
use Rattle.std.proofs.Common.{rules}
use Rattle.checkout.proofs.backing.ManifestBackingBacking.attr.Goals as goal

pub returns-clause-attr : goal.returns-clause-attr
returns-clause-attr c = search rules
