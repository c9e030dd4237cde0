-- The ids so far with those of what is left are all.
use Rattle.std.proofs.Common.{◌≡◌, ◌++◌, drop}
use Rattle.checkout.specs.Rounds.{ids_given}
use Rattle.checkout.proofs.changes.by_other.ids_given.Given as goal

abbrev pub invariant-loop-change : goal.invariant-loop-change
invariant-loop-change l = l.ids.items ++ ids_given (drop l.change-index l.links) ≡ ids_given l.links
