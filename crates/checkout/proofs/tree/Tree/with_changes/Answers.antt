-- What was laid over the manifest is the tree with all changes made.
use Rattle.std.proofs.Common.{None, sym, ap, subst, ◌∙◌}
use Rattle.checkout.specs.BadChanges.{IsBadChange, bad_itself}
use Rattle.checkout.specs.Changed.{changed}
use Rattle.checkout.specs.Changes.{AreChanges}
use Rattle.checkout.proofs.ChangedIsTree.{changed_has_changes}
use Rattle.checkout.proofs.WithChanges.{bad_by_last, is_changed_tree, is_overlay}
use Rattle.checkout.proofs.tree.Tree.with_changes.Goals as goal

pub of-requires : goal.of-requires
of-requires c = record {
  is_manifest = c.in_ok-manifest.ensures.is_manifest;
  itself = ap (λ x. bad_itself x c.args.changes.now) c.in_ok-manifest.ensures.same ∙ sym c.bad_itself.ensures ∙ c.in_default.is;
}

pub invariant_of-result : goal.invariant_of-result
invariant_of-result c =
    let laid = c.in_ok-laid.ensures in
    let parts = c.in_ok-laid.laid in
    (is_overlay c.in_ok-manifest.manifest c.args.changes.now parts.added parts.gone parts.lost laid.laid parts.made laid.made laid.names laid.good, laid.laid.so_far.gone_room, laid.laid.so_far.lost_room)

pub returns-clause-tree : goal.returns-clause-tree
returns-clause-tree c =
    let laid = c.in_ok-laid.ensures in
    let parts = c.in_ok-laid.laid in
    let changes = c.args.changes.now in
    is_changed_tree c.in_ok-manifest.manifest changes parts.added parts.gone parts.lost laid.laid parts.made laid.made ∙ ap (λ x. changed x changes) c.in_ok-manifest.ensures.same

pub returns-clause-is_tree : goal.returns-clause-is_tree
returns-clause-is_tree c = (invariant_of-result c).0.is_tree

pub returns-clause-good : goal.returns-clause-good
returns-clause-good c =
    let laid = c.in_ok-laid.ensures in
    let parts = c.in_ok-laid.laid in
    let changes = c.args.changes.now in
    subst (λ x. IsBadChange x changes None) c.in_ok-manifest.ensures.same (bad_by_last c.in_ok-manifest.manifest changes parts.added parts.gone parts.lost laid.laid None laid.good)

pub returns-clause-changes : goal.returns-clause-changes
returns-clause-changes c =
    let m = c.in_ok-manifest.manifest in
    let laid = c.in_ok-laid.ensures in
    let parts = c.in_ok-laid.laid in
    let changes = c.args.changes.now in
    let is = is_changed_tree m changes parts.added parts.gone parts.lost laid.laid parts.made laid.made in
    subst (λ t. AreChanges t changes) (sym is) (changed_has_changes m changes laid.laid.is_manifest (bad_by_last m changes parts.added parts.gone parts.lost laid.laid None laid.good))
