-- A line's result is printed, and what it waits for.
use Rattle.broker_process.proofs.PlayingLemmas.{comes-nothing, plays-at_once, plays-waits}
use Rattle.broker_process.proofs.script.play_line.Goals as goal

pub returns-in-Waits : goal.returns-in-Waits
returns-in-Waits g c = record {
  plays = plays-waits c.print_came.result c.args.line.now c.begin-begun.result c.in-Waits.awaited c.wait_for.result _ _ _ c.begin-begun.ensures.began c.in_ok-print_begun.ensures.printed c.in-Waits.is c.wait_for.ensures.come c.print_came.ensures.printed;
}

pub returns-in-Forgot : goal.returns-in-Forgot
returns-in-Forgot g c = record {
  plays = plays-at_once c.args.line.now c.begin-begun.result _ _ c.begin-begun.ensures.began c.in_ok-print_begun.ensures.printed (comes-nothing _ _ c.in-Forgot.is);
}
