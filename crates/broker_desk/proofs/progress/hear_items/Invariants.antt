use Rattle.std.proofs.Common.{length}
use Rattle.broker_desk.specs.Desk.{DeskState}
use Rattle.broker_desk.specs.Progress.{HearsItems}
use Rattle.broker_desk.specs.declared.progress.Progress.{Progress}
use Rattle.broker_desk.proofs.progress.hear_items.Given as goal

abbrev pub invariant-loop-item : goal.invariant-loop-item
invariant-loop-item l =
    (progress : Progress) (new : DeskState) → HearsItems l.items l.desk progress new
    → HearsItems l.initial.items l.initial.desk progress new

abbrev pub decreases-loop-item : goal.decreases-loop-item
decreases-loop-item l = length l.items
