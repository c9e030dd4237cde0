-- The files of the way have a colour now and had none, so that they are apart; the file is one of them, or the next.
use Rattle.std.proofs.Common.{◌≡◌, ◌==◌, ◌-◌, ◌<◌, ◌⊎◌, ℕ, true, Some, is_some, length}
use Rattle.std.specs.FinMap.{get}
use Rattle.std.specs.List.{list_any, IsDistinct}
use Rattle.checkout.specs.Around.{ids, links_now, IsClimb}
use Rattle.checkout.proofs.changes.around.climb.Given as goal

abbrev pub invariant-loop-colours : goal.invariant-loop-colours
invariant-loop-colours l = record {
  climb : IsClimb (links_now l.manifest l.added l.gone) l.initial.colours l.colours l.way.items (Some l.at);
  began : (l.at ≡ l.fn.file) ⊎ (is_some (get l.colours l.fn.file.0) ≡ true);
  distinct : IsDistinct ◌==◌ (ids l.way.items);
  fit : (q : ℕ) → list_any (λ f. q == f) (ids l.way.items) ≡ true → q < 18446744073709551616;
}

abbrev pub decreases-loop-colours : goal.decreases-loop-colours
decreases-loop-colours l = 18446744073709551616 - length l.way.items
