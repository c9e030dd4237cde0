-- What a wrong body of must-fail/ breaks; an answer makes its refusal cheap.
use Rattle.std.proofs.Common.{rules}
use Rattle.journal.proofs.journal.Journal.push.Goals as goal

pub returns-clause-records : goal.returns-clause-records
returns-clause-records c = search rules
