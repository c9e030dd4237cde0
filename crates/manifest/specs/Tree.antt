-- The tree of a checkout: its files, the names that lead to them, and the file that would be made next. Before anything
-- is made or removed, it is the tree of a manifest. Files are never taken out of it while a mount lasts. (EdenFS's
-- documents on inodes and the overlay; the next file is this project's own.)
use Rattle.std.specs.Prelude.{◌≡◌, ℕ, ◌+◌, ◌<◌, ◌≤◌, ◌⊎◌, Bool, true, false, List, [], ◌∷◌, length, Option, Some, None, IsSome}
use Rattle.std.specs.Option.{option_map, option_and_then}
use Rattle.std.specs.Ordering.{nat_cmp, ordering_then}
use Rattle.std.specs.Cmp.Lexicographic.{slice_cmp}
use Rattle.std.specs.declared.cmp.Ordering.{Ordering}
use Rattle.std.specs.FinMap.{FinMap, get, insert, empty}
use Rattle.eden_base.specs.Limits.{end_of_files}
use Rattle.eden_base.specs.Name.{IsNameText}
use Rattle.eden_base.specs.Kinds.{kind_made}
use Rattle.eden_base.specs.declared.attr.Kind.{Kind}
use Rattle.eden_base.specs.declared.attr.Kind.TheVariants.{Dir, Link, File as RegularFile}
use Rattle.eden_base.specs.declared.attr.MadeKind.{MadeKind}
use Rattle.eden_base.specs.declared.attr.Perm.{Perm}
use Rattle.eden_base.specs.declared.number.FileId.{FileId}
use Rattle.std.proofs.Common.{lit≤}
use Rattle.manifest.specs.Manifest.{File, Line, Manifest}

-- the order of two links: by directory, and then by the bytes of the name
abbrev pub link_cmp : ℕ × List ℕ → ℕ × List ℕ → Ordering
link_cmp a b = ordering_then (nat_cmp a.0 b.0) (slice_cmp nat_cmp a.1 b.1)

-- a tree: its manifest, its files by their ids, its links by directory and name, and the id of the next file
pub record Tree : Type 0 where
  pub manifest : Manifest
  pub files : FinMap nat_cmp File
  pub links : FinMap link_cmp FileId
  pub next_file : ℕ

-- the file that the tree has under this id, if any
abbrev pub file_of : Tree → FileId → Option File
file_of tree file = get tree.files file.0

-- the kind of the file under this id, if any
abbrev pub kind_of : Tree → FileId → Option Kind
kind_of tree file = option_map (λ (f : File). f.kind) (file_of tree file)

-- the file under a name in a directory, if any
abbrev pub child_of : Tree → FileId → List ℕ → Option FileId
child_of tree dir name = get tree.links (dir.0, name)

-- some link in the directory gives the file
abbrev pub StandsIn : FinMap link_cmp FileId → FileId → FileId → Type 0
StandsIn links file dir = (name : List ℕ) × (get links (dir.0, name) ≡ Some file)

-- the first file of a directory whose id is `least` or greater: the one of the least id, or None if there is none. (A file
-- keeps its id while it has a name, so this is the order in which a directory is listed: this project's own.)
abbrev pub IsFirstFrom : FinMap link_cmp FileId → FileId → ℕ → Option FileId → Type 0
IsFirstFrom links dir least (Some file) =
    StandsIn links file dir × (least ≤ file.0)
    × ((other : FileId) → StandsIn links other dir → least ≤ other.0 → file.0 ≤ other.0)
IsFirstFrom links dir least None = (other : FileId) → StandsIn links other dir → least ≤ other.0 → ⊥

-- the kind is that of a directory
abbrev pub is_dir : Option Kind → Bool
is_dir None = false
is_dir (Some RegularFile) = false
is_dir (Some Dir) = true
is_dir (Some Link) = false

-- the link count that stat(2) has for a linked file of this kind; a directory names itself
abbrev pub nlink_of_kind : Kind → ℕ
nlink_of_kind RegularFile = 1
nlink_of_kind Dir = 2
nlink_of_kind Link = 1

-- the file at a path, from this directory down, if any
abbrev pub file_at : Tree → FileId → List (List ℕ) → Option FileId
file_at tree dir [] = Some dir
file_at tree dir (name ∷ path) = option_and_then (λ child. file_at tree child path) (child_of tree dir name)

-- the id of the root directory
abbrev pub root : FileId
root = record { 0 = 1 }

-- the permissions of each directory of a manifest: all may read and search it, and its owner alone may write (0o755)
abbrev pub dir_perm : Perm
dir_perm = record { bits = 493; in_range = lit≤ tt }

-- the permissions of each symbolic link: all may do all, since Linux follows a link whatever they are (symlink(7))
abbrev pub link_perm : Perm
link_perm = record { bits = 511; in_range = lit≤ tt }

-- the root of a manifest's tree, as a file
abbrev pub root_file : File
root_file = record { kind = Dir; perm = dir_perm; size = 0 }

-- the files of these lines, of which the first has this id, and the root
abbrev pub files_from : ℕ → List Line → FinMap nat_cmp File
files_from id [] = insert empty 1 root_file
files_from id (line ∷ lines) = insert (files_from (id + 1) lines) id line.file

-- the links of these lines, of which the first is that of the file with this id
abbrev pub links_from : ℕ → List Line → FinMap link_cmp FileId
links_from id [] = empty
links_from id (line ∷ lines) = insert (links_from (id + 1) lines) (line.dir.0, line.name) (record { 0 = id })

-- the tree of a manifest, before anything is made or removed
abbrev pub tree_of : Manifest → Tree
tree_of manifest = record {
  manifest = manifest;
  files = files_from 2 manifest.lines;
  links = links_from 2 manifest.lines;
  next_file = length manifest.lines + 2;
}

-- a file that a request made: it is empty, and a regular file or a directory
abbrev pub IsMadeFile : File → Type 0
IsMadeFile f = (kind : MadeKind) × (f.kind ≡ kind_made kind) × (f.size ≡ 0)

-- files and links make a tree of the manifest
pub record IsTree (tree : Tree) : Type 0 where
  pub root_is_dir : kind_of tree root ≡ Some Dir
  pub ids_below_next : (file : FileId) → IsSome (file_of tree file) → file.0 < tree.next_file
  pub next_fits : tree.next_file ≤ end_of_files
  -- the manifest's files are as the manifest says, and so is the root
  pub has_manifest_files : (file : FileId) (f : File) → file_of (tree_of tree.manifest) file ≡ Some f →
      file_of tree file ≡ Some f
  -- all other files were made later
  pub others_are_later : (file : FileId) (f : File) → file_of tree file ≡ Some f →
      (file_of (tree_of tree.manifest) file ≡ Some f) ⊎ ((length tree.manifest.lines + 2 ≤ file.0) × IsMadeFile f)
  pub links_have_names : (dir : FileId) (name : List ℕ) (file : FileId) → child_of tree dir name ≡ Some file →
      IsNameText name
  pub links_give_files : (dir : FileId) (name : List ℕ) (file : FileId) → child_of tree dir name ≡ Some file →
      IsSome (file_of tree file)
  pub links_stand_in_dirs : (dir : FileId) (name : List ℕ) (file : FileId) → child_of tree dir name ≡ Some file →
      kind_of tree dir ≡ Some Dir
  pub root_has_no_link : (dir : FileId) (name : List ℕ) (file : FileId) → child_of tree dir name ≡ Some file →
      1 < file.0
  -- no file stands at two places
  pub links_are_apart : (dir other_dir : FileId) (name other_name : List ℕ) (file : FileId) →
      child_of tree dir name ≡ Some file → child_of tree other_dir other_name ≡ Some file →
      (dir ≡ other_dir) × (name ≡ other_name)
  -- each linked file is reached from the root
  pub links_are_reached : (dir : FileId) (name : List ℕ) (file : FileId) → child_of tree dir name ≡ Some file →
      (path : List (List ℕ)) × (file_at tree root path ≡ Some file)
