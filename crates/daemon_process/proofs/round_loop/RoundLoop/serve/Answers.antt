-- Each round prints the line of its generation, or none.
use Rattle.daemon_process.proofs.LinesPrinted.{serving-none, serving-round}
use Rattle.daemon_process.proofs.round_loop.RoundLoop.serve.Goals as goal

pub loop-init : goal.loop-init
loop-init g c = serving-none _

pub returns-in-Some-serve_lease : goal.returns-in-Some-serve_lease
returns-in-Some-serve_lease g c = record {
  prints = serving-round _ _ _ _ _ _ c.loop.invariant c.in-Some-serve_lease.ensures.prints;
  may_end = tt;
}

pub loop-preserved-in-Serve : goal.loop-preserved-in-Serve
loop-preserved-in-Serve g c = serving-round _ _ _ _ _ _ c.loop.invariant c.in_default.ensures.prints
