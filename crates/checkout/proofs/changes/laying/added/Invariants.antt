-- What was added with what is left are all that are added, and what is left can be.
use Rattle.std.proofs.Common.{◌≡◌, drop}
use Rattle.std.specs.FinMap.{empty}
use Rattle.checkout.specs.Laying.{with_added, CanAdd}
use Rattle.checkout.proofs.changes.laying.added.Given as goal

abbrev pub invariant-loop-change : goal.invariant-loop-change
invariant-loop-change l = record {
  so_far : with_added l.added (drop l.change-index l.links) ≡ with_added empty l.links;
  fit : CanAdd l.added (drop l.change-index l.links);
}
