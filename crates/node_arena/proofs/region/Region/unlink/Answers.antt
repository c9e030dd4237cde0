-- What a wrong body of must-fail/ breaks; an answer makes its refusal cheap.
use Rattle.std.proofs.Common.{rules}
use Rattle.node_arena.proofs.region.Region.unlink.Goals as goal

pub returns : goal.returns
returns g c = search rules
