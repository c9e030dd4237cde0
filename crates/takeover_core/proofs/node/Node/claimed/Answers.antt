-- What a wrong body of must-fail/ breaks; an answer makes its refusal cheap.
use Rattle.std.proofs.Common.{rules}
use Rattle.takeover_core.proofs.node.Node.claimed.Goals as goal

pub returns-in-Err-Unanswered : goal.returns-in-Err-Unanswered
returns-in-Err-Unanswered c = search rules
