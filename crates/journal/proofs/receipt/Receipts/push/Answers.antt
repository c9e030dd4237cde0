-- What a wrong body of must-fail/ breaks; an answer makes its refusal cheap.
use Rattle.std.proofs.Common.{rules}
use Rattle.journal.proofs.receipt.Receipts.push.Goals as goal

pub returns-clause-list : goal.returns-clause-list
returns-clause-list c = search rules
