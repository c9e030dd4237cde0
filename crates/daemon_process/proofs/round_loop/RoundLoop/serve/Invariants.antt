-- Nothing was printed so far but lines of generations.
use Rattle.daemon_process.specs.Ending.{PrintsServing}
use Rattle.daemon_process.proofs.round_loop.RoundLoop.serve.Given as goal

abbrev pub invariant-loop : goal.invariant-loop
invariant-loop g l = PrintsServing (g.W.Write.contents l.fn.out) (g.W.Write.contents l.out)
