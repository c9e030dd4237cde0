-- What a wrong body of must-fail/ breaks; an answer makes its refusal cheap.
use Rattle.std.proofs.Common.{rules}
use Rattle.mount_wire.specs.Header.{header_of}
use Rattle.mount_wire.proofs.header.read_header.Goals as goal

pub returns-clause-exact : goal.returns-clause-exact
unfolding header_of
returns-clause-exact c = search rules
