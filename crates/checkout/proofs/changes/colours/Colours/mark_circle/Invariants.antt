-- With the files that are left, all are set.
use Rattle.std.proofs.Common.{◌≡◌, drop, true, Some, if◌then◌else◌}
use Rattle.std.specs.FinMap.{get}
use Rattle.eden_base.specs.declared.number.FileId.{FileId}
use Rattle.checkout.specs.Around.{among}
use Rattle.checkout.proofs.changes.colours.Colours.mark_circle.Given as goal

abbrev pub invariant-loop-file : goal.invariant-loop-file
invariant-loop-file l =
    (file : FileId) → (if among file (drop l.file-index l.files) then Some true else get l.self file.0) ≡ (if among file l.files then Some true else get l.initial.self file.0)
