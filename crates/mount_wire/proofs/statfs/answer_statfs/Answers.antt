-- What a wrong body of must-fail/ breaks; an answer makes its refusal cheap.
use Rattle.std.proofs.Common.{rules}
use Rattle.mount_wire.proofs.Texts.{texts}
use Rattle.mount_wire.proofs.statfs.answer_statfs.Goals as goal

pub returns : goal.returns
returns c = search (rules, texts)
