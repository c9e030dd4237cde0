-- What a wrong body of must-fail/ breaks; an answer makes its refusal cheap.
use Rattle.std.proofs.Common.{rules}
use Rattle.journal.proofs.settled.joins.Goals as goal

pub returns-clause-rising : goal.returns-clause-rising
returns-clause-rising c = search rules
