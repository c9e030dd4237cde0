-- What a wrong body of must-fail/ breaks; an answer makes its refusal cheap.
use Rattle.std.proofs.Common.{rules}
use Rattle.map_image.proofs.member_writer.place_mark.Goals as goal

pub returns-in-Unlinked : goal.returns-in-Unlinked
returns-in-Unlinked c = search rules
