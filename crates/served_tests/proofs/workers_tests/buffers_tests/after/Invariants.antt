use Rattle.std.specs.Prelude.{◌≡◌, IfSome}
use Rattle.served_tests.proofs.workers_tests.buffers_tests.after.Given as goal

abbrev pub invariant-loop-round : goal.invariant-loop-round
invariant-loop-round g l = IfSome l.between (λ between. between.served.tree.manifest ≡ l.manifest)
