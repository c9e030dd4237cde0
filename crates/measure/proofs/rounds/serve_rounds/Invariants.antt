use Rattle.std.specs.Prelude.{◌≡◌}
use Rattle.measure.proofs.rounds.serve_rounds.Given as goal

abbrev pub invariant-loop-round : goal.invariant-loop-round
invariant-loop-round g l = l.between.served.tree.manifest ≡ l.manifest
