-- The next one is told too.
use Rattle.std.proofs.Common.{arith}
use Rattle.git_objects.specs.Desk.{with_fault}
use Rattle.git_objects.proofs.Faulting.{changed_more}
use Rattle.git_objects.proofs.desk.set_faults.Goals as goal

pub loop-place-preserved : goal.loop-place-preserved
loop-place-preserved c =
    changed_more (with_fault c.args.object.now c.args.fault) c.args.wants.now.items c.loop-place.wants.items c.loop-place.place
    c.index-want.result.now c.with_fault.result c.loop-place.invariant (omega (arith, c.args.wants.now.ok)) c.index-want.ensures c.with_fault.ensures
