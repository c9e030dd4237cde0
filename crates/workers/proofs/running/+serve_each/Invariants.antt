use Rattle.std.specs.Prelude.{vec_len}
use Rattle.workers.proofs.running.+serve_each.Given as goal

abbrev pub decreases-serve_each : goal.decreases-serve_each
decreases-serve_each g l = vec_len l.workers.channels
