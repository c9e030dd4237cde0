-- What a wrong body of must-fail/ breaks; an answer makes its refusal cheap.
use Rattle.std.proofs.Common.{rules}
use Rattle.entry_table.proofs.kept.Entry.kept.Goals as goal

pub returns-clause-entry : goal.returns-clause-entry
returns-clause-entry c = search rules
