-- The entries of a directory, in the order in which a READDIR lists them (readdir(3), getdents(2)). An entry keeps its
-- position as long as it stands in its directory, and over every takeover; which position that is, is this project's
-- own.
use Rattle.std.specs.Prelude.{◌≡◌, ℕ, ◌+◌, ◌-◌, ◌<◌, ◌≤◌, ◌⊎◌, min, false, List, [], ◌∷◌, length, Some}
use Rattle.eden_base.specs.declared.number.FileId.{FileId}
use Rattle.manifest.specs.Tree.{Tree, StandsIn, child_of, kind_of, root}
use Rattle.checkout.specs.ChangedTree.{is_unlinked}
use Rattle.fuse_wire.specs.DirectoryEntries.{Dirent, entry_text}

-- the name of a directory in itself, and that of the directory above it
abbrev pub dot : List ℕ
dot = 46 ∷ []

abbrev pub dot_dot : List ℕ
dot_dot = 46 ∷ 46 ∷ []

-- at this position of a directory this name gives this file. A directory that a name leads to has itself at 0, and the
-- directory above it at 1; the root stands above itself. A child stands at its id.
pub data StandsAt (tree : Tree) (dir : FileId) : ℕ → List ℕ → FileId → Type 0 where
  is_itself : (position : ℕ) (name : List ℕ) (file : FileId) →
      position ≡ 0 → name ≡ dot → is_unlinked tree dir ≡ false → file ≡ dir → StandsAt tree dir position name file
  is_above : (position : ℕ) (name : List ℕ) (file : FileId) →
      position ≡ 1 → name ≡ dot_dot → StandsIn tree.links dir file → StandsAt tree dir position name file
  is_above_root : (position : ℕ) (name : List ℕ) (file : FileId) →
      position ≡ 1 → name ≡ dot_dot → dir ≡ root → file ≡ root → StandsAt tree dir position name file
  is_child : (position : ℕ) (name : List ℕ) (file : FileId) →
      position ≡ file.0 → child_of tree dir name ≡ Some file → StandsAt tree dir position name file

-- this is an entry of a directory, where `IsInode` says by which inode number it may tell a file; a READDIR goes on
-- behind it at the next position
pub record IsEntry (IsInode : FileId → ℕ → Type 0) (tree : Tree) (dir : FileId) (entry : Dirent) : Type 0 where
  pub position : ℕ
  pub file : FileId
  pub stands : StandsAt tree dir position entry.name file
  pub next : entry.next ≡ position + 1
  pub kind : kind_of tree file ≡ Some entry.kind
  pub number : IsInode file entry.number

-- nothing stands in a directory from this position on
abbrev pub IsEnd : Tree → FileId → ℕ → Type 0
IsEnd tree dir from =
    (position : ℕ) (name : List ℕ) (file : FileId) → StandsAt tree dir position name file → from ≤ position → ⊥

-- this is the first entry of a directory from this position on
pub record IsFirstEntry (IsInode : FileId → ℕ → Type 0) (tree : Tree) (dir : FileId) (from : ℕ)
    (entry : Dirent) : Type 0 where
  pub is : IsEntry IsInode tree dir entry
  pub behind : from < entry.next
  pub first : (position : ℕ) (name : List ℕ) (file : FileId) → StandsAt tree dir position name file →
      from ≤ position → entry.next ≤ position + 1

-- the first entry from a position on has a longer text than this
pub record IsTooLong (IsInode : FileId → ℕ → Type 0) (tree : Tree) (dir : FileId) (from room : ℕ) : Type 0 where
  pub entry : Dirent
  pub first : IsFirstEntry IsInode tree dir from entry
  pub longer : room < length (entry_text entry)

-- these are the entries of a directory from a position on, in their order, as many as have room in so many bytes
abbrev pub Lists : (FileId → ℕ → Type 0) → Tree → FileId → ℕ → ℕ → List Dirent → Type 0
Lists IsInode tree dir from room [] = IsEnd tree dir from ⊎ IsTooLong IsInode tree dir from room
Lists IsInode tree dir from room (entry ∷ entries) =
    IsFirstEntry IsInode tree dir from entry × (length (entry_text entry) ≤ room)
    × Lists IsInode tree dir entry.next (room - length (entry_text entry)) entries

-- what a READDIR is for: a directory, a position, and how many bytes there are for the entries from it on
pub record Range : Type 0 where
  pub dir : FileId
  pub from : ℕ
  pub room : ℕ

-- the range of a READDIR of this offset and size; an answer has at most 65,512 bytes
abbrev pub range_of : FileId → ℕ → ℕ → Range
range_of dir offset size = record { dir = dir; from = offset; room = min size 65512 }
