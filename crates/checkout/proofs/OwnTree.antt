-- A tree is what its own changes make of its manifest.
use Rattle.std.proofs.Common.{◌≡◌, refl}
use Rattle.checkout.specs.declared.changes.Changes.{Changes}
use Rattle.checkout.specs.Changed.{changed}
use Rattle.checkout.specs.Changes.{AreChanges}
use Rattle.manifest.specs.Manifest.{IsManifest}
use Rattle.manifest.specs.Tree.{IsTree, Tree}
use Rattle.checkout.proofs.ChangedIsTree.{changed_has_changes, changed_is_tree}
use Rattle.checkout.proofs.ChangesLaws.{changed_names, one_tree}
use Rattle.checkout.proofs.GoodRounds.{changes_are_good}
use Rattle.manifest.proofs.ManifestIsTree.{tree_of-IsTree}

pub tree_is_changed : (t : Tree) (c : Changes) → IsTree t → IsManifest t.manifest → AreChanges t c → changed t.manifest c ≡ t
tree_is_changed t c is manifest has =
    let none = changes_are_good t c is manifest has in
    let names = changed_names t c is (tree_of-IsTree t.manifest manifest) has in
    one_tree t (changed t.manifest c) c is (changed_is_tree t.manifest c manifest names none) refl has (changed_has_changes t.manifest c manifest none)
