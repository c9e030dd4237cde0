-- The lines so far were done.
use Rattle.std.proofs.Common.{drop}
use Rattle.broker_process.proofs.PlayingLemmas.{IsPlayedTo}
use Rattle.broker_process.proofs.script.play.Given as goal

abbrev pub invariant-loop-line : goal.invariant-loop-line
invariant-loop-line g l =
    IsPlayedTo l.script (drop l.line-index l.script) (g.W.Write.contents l.fn.out) (g.W.Write.contents l.out)
