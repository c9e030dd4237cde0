-- Of every map of links: the files that some link gives. Of every tree: the linked files are the children.
use Rattle.std.proofs.Common.{◌≡◌, ℕ, true, ◌==◌, List, Some, ap, ◌∙◌, refl, arith, eq-eqb}
use Rattle.std.proofs.lemmas.Bool.Decides.{nat_tests}
use Rattle.std.specs.FinMap.{FinMap, get}
use Rattle.eden_base.specs.declared.number.FileId.{FileId}
use Rattle.checkout.specs.Added.{gives}
use Rattle.manifest.specs.Tree.{Tree, link_cmp, child_of}
use Rattle.checkout.specs.ChangedTree.{is_linked}
use Rattle.manifest.proofs.FlatLemmas.{link_cmp_total}
use Rattle.manifest.proofs.ManifestTree.{same_id}
use Rattle.manifest.proofs.MapLemmas.{list_any-entries, value_from_any}

-- what a link gives is given
pub given_from_link : (links : FinMap link_cmp FileId) (dir : FileId) (name : List ℕ) (file : FileId) → get links (dir.0, name) ≡ Some file → gives links file ≡ true
given_from_link links dir name file h = list_any-entries (λ (f : FileId). f.0 == file.0) links (dir.0, name) file h (eq-eqb file.0 file.0 refl)

-- what is given, a link gives
pub link_from_given : (links : FinMap link_cmp FileId) (file : FileId) → gives links file ≡ true → (dir : FileId) × (name : List ℕ) × (get links (dir.0, name) ≡ Some file)
link_from_given links file h =
    let r = value_from_any link_cmp_total (λ (f : FileId). f.0 == file.0) links h in
    let same : r.1.0 ≡ file.0 = grind (arith, nat_tests) in
    (record { 0 = r.0.0 }, r.0.1, r.2 ∙ ap (λ (f : FileId). Some f) (same_id r.1 file same))

-- the child of a directory is linked
pub linked_from_child : (tree : Tree) (dir : FileId) (name : List ℕ) (file : FileId) → child_of tree dir name ≡ Some file → is_linked tree file ≡ true
linked_from_child tree dir name file h = given_from_link tree.links dir name file h

-- a linked file is the child of a directory
pub child_from_linked : (tree : Tree) (file : FileId) → is_linked tree file ≡ true → (dir : FileId) × (name : List ℕ) × (child_of tree dir name ≡ Some file)
child_from_linked tree file h = link_from_given tree.links file h
