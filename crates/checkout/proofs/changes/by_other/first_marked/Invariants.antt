-- The first of what is left is the first of all.
use Rattle.std.proofs.Common.{◌≡◌, drop}
use Rattle.std.specs.BTreeMap.{get as mark_of}
use Rattle.std.specs.Ordering.{nat_cmp}
use Rattle.checkout.specs.UnlinkedFiles.{is_gone}
use Rattle.checkout.specs.Rounds.{first_of, is_given_twice}
use Rattle.checkout.proofs.changes.by_other.first_marked.Given as goal

abbrev pub invariant-loop-i : goal.invariant-loop-i
invariant-loop-i l =
    first_of (is_given_twice l.manifest (is_gone l.gone) (mark_of nat_cmp l.marks)) l.i (drop l.i l.links) ≡ first_of (is_given_twice l.manifest (is_gone l.gone) (mark_of nat_cmp l.marks)) 0 l.links
