-- The first bad file of all is the first of those that are left.
use Rattle.std.proofs.Common.{◌≡◌, ◌+◌, drop, None}
use Rattle.checkout.specs.BadChanges.{first_bad, is_bad_made}
use Rattle.checkout.proofs.changes.bad_itself.first_bad_made.Given as goal

abbrev pub invariant-loop-i : goal.invariant-loop-i
invariant-loop-i l =
    first_bad (is_bad_made l.manifest l.next) (l.i + 1) l.before (drop l.i l.files) ≡ first_bad (is_bad_made l.manifest l.next) 1 None l.files
