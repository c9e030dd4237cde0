-- The mounts so far died, and their lines were printed.
use Rattle.broker_process.specs.Mounting.{PrintsDead}
use Rattle.broker_process.proofs.mount.MountLoop.serve_mounts.Given as goal

abbrev pub invariant-loop : goal.invariant-loop
invariant-loop g l = PrintsDead (g.W.Write.contents l.fn.out) (g.W.Write.contents l.out)
