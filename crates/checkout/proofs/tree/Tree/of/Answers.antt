-- Nothing differs yet.
use Rattle.std.proofs.Common.{false, refl}
use Rattle.checkout.proofs.OverlaySteps.{start-is, start-IsOverlay}
use Rattle.checkout.proofs.tree.Tree.of.Goals as goal

pub invariant_of-result : goal.invariant_of-result
invariant_of-result c =
    rw (c.new.ensures, c.new-2.ensures, c.in_ok-gone.ensures, c.in_ok-lost.ensures, c.lines.ensures.lines)
    (start-IsOverlay c.in_ok-manifest.manifest (λ _. false) (λ _. 0) c.in_ok-manifest.ensures.is_manifest (λ _. refl) (λ _. refl), refl, refl)

pub returns-clause-tree : goal.returns-clause-tree
returns-clause-tree c =
    rw (c.new.ensures, c.new-2.ensures, c.in_ok-gone.ensures, c.lines.ensures.lines, ← c.in_ok-manifest.ensures.same) (start-is c.in_ok-manifest.manifest (λ _. false) (λ _. refl))

pub returns-clause-is_tree : goal.returns-clause-is_tree
returns-clause-is_tree c =
    rw (c.new.ensures, c.new-2.ensures, c.in_ok-gone.ensures, c.lines.ensures.lines) (start-IsOverlay c.in_ok-manifest.manifest (λ _. false) (λ _. 0) c.in_ok-manifest.ensures.is_manifest (λ _. refl) (λ _. refl)).is_tree
