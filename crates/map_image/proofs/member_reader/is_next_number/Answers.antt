-- What a wrong body of must-fail/ breaks; an answer makes its refusal cheap.
use Rattle.std.proofs.Common.{rules}
use Rattle.map_image.proofs.member_reader.is_next_number.Goals as goal

pub returns-in-Some : goal.returns-in-Some
returns-in-Some c = search rules
