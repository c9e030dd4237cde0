-- The first of what is left is the first of all.
use Rattle.std.proofs.Common.{◌≡◌, drop}
use Rattle.checkout.specs.UnlinkedFiles.{is_gone}
use Rattle.checkout.specs.Rounds.{cuts, cuts_if, first_of}
use Rattle.manifest.specs.Tally.{count_of}
use Rattle.checkout.proofs.changes.cut.first_cut.Given as goal

abbrev pub invariant-loop-i : goal.invariant-loop-i
invariant-loop-i l =
    first_of (cuts_if l.files l.manifest l.added (is_gone l.gone) (count_of l.lost)) l.i (drop l.i l.links) ≡ first_of (cuts l.manifest l.added (is_gone l.gone) (count_of l.lost)) 0 l.links
