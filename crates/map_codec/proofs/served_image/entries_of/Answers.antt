-- What a wrong body of must-fail/ breaks; an answer makes its refusal cheap.
use Rattle.std.proofs.Common.{rules}
use Rattle.map_codec.proofs.served_image.entries_of.Goals as goal

pub returns-clause-entries : goal.returns-clause-entries
returns-clause-entries c = search rules
