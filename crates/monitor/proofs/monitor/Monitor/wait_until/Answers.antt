-- The last look found what is returned.
use Rattle.monitor.proofs.monitor.Monitor.wait_until.Goals as goal

pub returns-in-Found : goal.returns-in-Found
returns-in-Found g c = record { found = (_, _, _, _, c.in-Found.ensures, c.loop.invariant.1) }
