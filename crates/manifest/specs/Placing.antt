-- Where one more file may stand after the lines of a manifest: in the root, or in a directory that has a line. (This
-- project's own.)
use Rattle.std.specs.Prelude.{◌≡◌, ℕ, not, nat_le, List, [], length, Option, Some, None, is_none, is_some, unwrap_or, if◌then◌else◌}
use Rattle.std.specs.Option.{option_and_then}
use Rattle.std.specs.List.{list_all}
use Rattle.eden_base.specs.declared.number.FileId.{FileId}
use Rattle.manifest.specs.declared.fault.PlaceFault.{PlaceFault}
use Rattle.manifest.specs.declared.fault.PlaceFault.TheVariants.{BadPath, NoParent, Twice, TooManyFiles, NoMemory}
use Rattle.manifest.specs.Manifest.{File, Line}
use Rattle.manifest.specs.Names.{is_name}
use Rattle.manifest.specs.Text.{parts, front, last}
use Rattle.manifest.specs.Tree.{Tree, tree_of, kind_of, child_of, file_at, root, is_dir}

-- the names of a path
abbrev pub names_of : List ℕ → List (List ℕ)
names_of path = parts 47 path

-- the tree of the lines so far
abbrev pub tree_so_far : List Line → Tree
tree_so_far lines = tree_of (record { commit = []; digest = []; lines = lines })

-- the file, if it is a directory
abbrev pub only_dir : Tree → FileId → Option FileId
only_dir tree file = if is_dir (kind_of tree file) then Some file else None

-- the directory at a path, if there is one
abbrev pub dir_at : Tree → List (List ℕ) → Option FileId
dir_at tree names = option_and_then (only_dir tree) (file_at tree root names)

-- the directory that holds the last name of a path, if there is one
abbrev pub parent_of : List Line → List ℕ → Option FileId
parent_of lines path = dir_at (tree_so_far lines) (front (names_of path))

-- the first fault of a path for one more file after these lines, of which there may be `most`, in this order
abbrev pub place_fault : ℕ → List Line → List ℕ → Option PlaceFault
place_fault most lines path =
    if not (list_all is_name (names_of path)) then Some BadPath
    else if is_none (parent_of lines path) then Some NoParent
    else if is_some (child_of (tree_so_far lines) (unwrap_or (parent_of lines path) root) (last (names_of path)))
    then Some Twice
    else if nat_le most (length lines) then Some TooManyFiles
    else None

-- the line of a file at a path after these lines
abbrev pub line_at : List Line → List ℕ → File → Line
line_at lines path file = record {
  dir = unwrap_or (parent_of lines path) root;
  name = last (names_of path);
  file = file;
}

-- a file is refused with this fault: its first one, or NoMemory if it has none
abbrev pub IsPlaceRefusal : Option PlaceFault → PlaceFault → Type 0
IsPlaceRefusal first NoMemory = first ≡ None
IsPlaceRefusal first fault = first ≡ Some fault
