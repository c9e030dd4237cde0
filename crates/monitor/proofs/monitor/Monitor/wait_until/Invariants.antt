-- The look may still be called, and is as it was where calls leave it so.
use Rattle.std.proofs.Common.{◌≡◌}
use denote.Param.Always.{always_mut}
use Rattle.std.specs.Iterator.Runs.{CallKeepsClosure}
use Rattle.monitor.proofs.monitor.Monitor.wait_until.Given as goal

abbrev pub invariant-loop : goal.invariant-loop
invariant-loop g l = always_mut g.F.FnMut l.look × (CallKeepsClosure g.F.FnMut l.initial.look → l.look ≡ l.initial.look)
