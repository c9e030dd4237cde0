-- What went and what goes still are all that go, and what goes still is left.
use Rattle.std.proofs.Common.{◌≡◌, ◌++◌, drop}
use Rattle.std.specs.List.{AllByRecursion}
use Rattle.eden_base.specs.Name.{IsNameText}
use Rattle.checkout.specs.Laying.{taken, AreTaken, IsLeft, StandApart}
use Rattle.checkout.proofs.changes.laying.taken.Given as goal

abbrev pub invariant-loop-change : goal.invariant-loop-change
invariant-loop-change l = record {
  files : l.gone.files ++ taken l.manifest (drop l.change-index l.links) ≡ taken l.manifest l.links;
  so_far : AreTaken l.manifest l.gone l.lost;
  left : AllByRecursion (IsLeft l.manifest l.gone) (drop l.change-index l.links);
  apart : StandApart (drop l.change-index l.links);
  names : AllByRecursion (λ link. IsNameText link.name) (drop l.change-index l.links) → AllByRecursion (λ link. IsNameText link.name) l.links;
}
