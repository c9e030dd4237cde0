use Rattle.std.proofs.Common.{◌≡◌, ◌++◌, map, take, drop}
use Rattle.git_objects.specs.Desk.{with_fault}
use Rattle.git_objects.proofs.desk.set_faults.Given as goal

abbrev pub invariant-loop-place : goal.invariant-loop-place
invariant-loop-place l =
    l.wants.items ≡ map (with_fault l.object l.fault) (take l.place l.initial.wants.items) ++ drop l.place l.initial.wants.items
