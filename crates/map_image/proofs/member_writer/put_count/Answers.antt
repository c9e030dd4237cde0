-- What a wrong body of must-fail/ breaks; an answer makes its refusal cheap.
use Rattle.std.proofs.Common.{rules}
use Rattle.map_image.proofs.member_writer.put_count.Goals as goal

pub returns-in-Eight : goal.returns-in-Eight
returns-in-Eight c = search rules
