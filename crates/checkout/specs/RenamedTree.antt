-- The tree after a move from one name to another, and when a move would put a directory into itself. (rename(2): what
-- stood at the new name is replaced in the same step. An unlinked file stays.)
use Rattle.std.specs.Prelude.{◌≡◌, Bool, not, ℕ, List, if◌then◌else◌, Some}
use Rattle.std.specs.FinMap.{remove}
use Rattle.eden_base.specs.declared.number.FileId.{FileId}
use Rattle.manifest.specs.Tree.{Tree, child_of, file_at, is_dir, kind_of}
use Rattle.checkout.specs.Changed.{put}
use Rattle.checkout.specs.ChangedTree.{is_empty_dir}

-- the tree after the file under a name in a directory moved to another name, in this or another directory. A file that
-- stood at the other name has lost this link, and all files stay
abbrev pub renamed : Tree → FileId → List ℕ → FileId → List ℕ → Tree
renamed tree dir name to_dir to_name = record {
  manifest = tree.manifest;
  files = tree.files;
  links = put (remove tree.links (dir.0, name)) (to_dir.0, to_name) (child_of tree dir name);
  next_file = tree.next_file;
}

-- whether a file may take the name of another: a directory the name of an empty directory, any other file the name of a
-- file that is no directory
abbrev pub can_replace : Tree → FileId → FileId → Bool
can_replace tree file other =
    if is_dir (kind_of tree file) then is_empty_dir tree other else not (is_dir (kind_of tree other))

-- the file is the other, or stands above the other: some names lead from the file down to the other
abbrev pub IsAtOrAbove : Tree → FileId → FileId → Type 0
IsAtOrAbove tree file other = (names : List (List ℕ)) × (file_at tree file names ≡ Some other)
