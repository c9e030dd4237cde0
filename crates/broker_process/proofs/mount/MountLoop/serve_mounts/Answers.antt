-- What was printed, where a mount fails, where somebody unmounts, and where a daemon dies.
use Rattle.broker_process.proofs.MountingLemmas.{ends-well, goes-on, then-fails}
use Rattle.broker_process.proofs.mount.MountLoop.serve_mounts.Goals as goal

pub returns-in-Err : goal.returns-in-Err
returns-in-Err g c = record { runs = then-fails c.begin_mount-generation.result c.in-Err.fault _ _ _ c.loop.invariant c.in-Err.ensures.prints }

pub returns-in-Unmounted : goal.returns-in-Unmounted
returns-in-Unmounted g c = record {
  runs = ends-well c.begin_mount-generation.result c.in-Ok.end _ _ _ _ c.loop.invariant c.in-Ok.ensures.prints c.in-Unmounted.is c.print_end.ensures.printed;
}

pub loop-preserved : goal.loop-preserved
loop-preserved g c = goes-on c.begin_mount-generation.result c.in-Ok.end _ _ _ _ c.loop.invariant c.in-Ok.ensures.prints c.in-Dead.is c.print_end.ensures.printed
