-- Each level is a step up from the other file.
use Rattle.checkout.proofs.StandsAbove.{IsOnWay}
use Rattle.checkout.proofs.tree.Tree.is_at_or_above.Given as goal

abbrev pub invariant-loop-level : goal.invariant-loop-level
invariant-loop-level l = IsOnWay l.self l.file l.fn.other l.at l._level
