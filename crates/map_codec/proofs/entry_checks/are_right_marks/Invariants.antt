-- The marks that are left are right exactly where all are.
use Rattle.std.proofs.Common.{◌≡◌, drop}
use Rattle.map_codec.specs.Raising.{are_right_marks}
use Rattle.map_codec.proofs.entry_checks.are_right_marks.Given as goal

abbrev pub invariant-loop-kept : goal.invariant-loop-kept
invariant-loop-kept l =
    are_right_marks l.tree (drop l.kept-index l.entries) ≡ are_right_marks l.tree l.entries
