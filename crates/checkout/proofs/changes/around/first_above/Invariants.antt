-- The colours are right, and no link so far is above itself.
use Rattle.std.proofs.Common.{◌≡◌, ◌<◌, ℕ, Some}
use Rattle.std.specs.List.{slice_get}
use Rattle.manifest.specs.declared.link_change.LinkChange.{LinkChange}
use Rattle.checkout.specs.Around.{links_now, AreRight, IsAbove}
use Rattle.checkout.proofs.changes.around.first_above.Given as goal

abbrev pub invariant-loop-index : goal.invariant-loop-index
invariant-loop-index l = record {
  right : AreRight (links_now l.manifest l.added l.gone) l.colours;
  none : (before : ℕ) (other : LinkChange) → before < l.index → slice_get l.links before ≡ Some other → IsAbove (links_now l.manifest l.added l.gone) other → ⊥;
}
