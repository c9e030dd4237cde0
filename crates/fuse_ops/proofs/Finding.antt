-- What a name in a directory gives.
use Rattle.std.proofs.Common.{◌≡◌, ℕ, ◌==◌, ◌&&◌, not, false, List, Option, Some, Ok, Err, ap, ◌∙◌}
use Rattle.std.proofs.Math.Bool.{and-false}
use Rattle.std.specs.Option.{option_map_or}
use Rattle.eden_base.specs.declared.errno.Errno.TheVariants.{ENOENT}
use Rattle.eden_base.specs.declared.number.FileId.{FileId}
use Rattle.manifest.specs.Tree.{Tree, IsTree, child_of}
use Rattle.checkout.specs.ChangedTree.{is_unlinked}
use Rattle.checkout.proofs.LinkLaws.{linked_from_child}
use Rattle.fuse_ops.specs.Answers.{found_in, found_in_dir}
use Rattle.fuse_ops.proofs.Keeping.{found-child}

-- where a name gives a file, it stands in a directory
pub child-found : (tree : Tree) (dir file : FileId) (name : List ℕ) → IsTree tree → child_of tree dir name ≡ Some file → found_in tree (Some dir) name ≡ Ok file
child-found tree dir file name is e =
    ap (found_in_dir tree dir name) (is.links_stand_in_dirs dir name file e) ∙ ap (λ (o : Option FileId). option_map_or (λ (f : FileId). Ok f) o (Err ENOENT)) e

-- what is found under a name is linked
pub found-linked : (tree : Tree) (dir file : FileId) (name : List ℕ) → found_in tree (Some dir) name ≡ Ok file → is_unlinked tree file ≡ false
found-linked tree dir file name found =
    ap (λ b. not (file.0 == 1) && not b) (linked_from_child tree dir name file (found-child tree dir file name found)) ∙ and-false (not (file.0 == 1))
