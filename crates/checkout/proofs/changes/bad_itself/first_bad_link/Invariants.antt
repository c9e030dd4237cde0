-- The first bad link of all is the first of those that are left.
use Rattle.std.proofs.Common.{◌≡◌, ◌+◌, drop, length, None}
use Rattle.std.specs.Option.{option_copied}
use Rattle.checkout.specs.BadChanges.{first_bad, is_bad_link}
use Rattle.checkout.proofs.changes.bad_itself.first_bad_link.Given as goal

abbrev pub invariant-loop-i : goal.invariant-loop-i
invariant-loop-i l =
    first_bad (is_bad_link l.manifest l.files) (length l.files + 1 + l.i) (option_copied l.before) (drop l.i l.links)
    ≡ first_bad (is_bad_link l.manifest l.files) (length l.files + 1) None l.links
