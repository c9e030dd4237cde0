-- The marks after what is left are the marks of all.
use Rattle.std.proofs.Common.{◌≡◌, ℕ, None, drop}
use Rattle.std.specs.BTreeMap.{get as mark_of, IsOrdered}
use Rattle.std.specs.Ordering.{nat_cmp}
use Rattle.checkout.specs.Rounds.{marked}
use Rattle.checkout.proofs.changes.by_other.all_marks.Given as goal

abbrev pub invariant-loop-change : goal.invariant-loop-change
invariant-loop-change l = record {
  ordered : IsOrdered nat_cmp l.marks;
  so_far : (file : ℕ) → marked file (mark_of nat_cmp l.marks file) (drop l.change-index l.links) ≡ marked file None l.links;
}
