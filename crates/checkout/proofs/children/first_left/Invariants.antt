-- What was looked at is passed, and ids are few.
use Rattle.std.proofs.Common.{◌+◌, ◌-◌}
use Rattle.manifest.specs.Manifest.{most_files}
use Rattle.checkout.proofs.FirstFrom.{IsPassed}
use Rattle.checkout.proofs.children.first_left.Given as goal

abbrev pub invariant-loop-file : goal.invariant-loop-file
invariant-loop-file l = IsPassed l.manifest l.gone l.dir l.fn.least.0 l.from.0

abbrev pub decreases-loop-file : goal.decreases-loop-file
decreases-loop-file l = most_files + 2 - l.from.0
