-- Which file each entry of an image names in a tree, and how these files are found one by one. (This project's own.)
use Rattle.std.specs.Prelude.{◌≡◌, ◌<◌, ℕ, true, false, List, length, map, slice_get, All, Option, Some, None}
use Rattle.std.specs.Option.{option_map_or}
use Rattle.std.specs.List.{AllByRecursion}
use Rattle.eden_base.specs.declared.number.FileId.{FileId}
use Rattle.eden_base.specs.declared.number.Number.{Number}
use Rattle.eden_base.specs.declared.place.Place.{Place}
use Rattle.eden_base.specs.declared.place.Place.TheVariants.{Linked, Unlinked}
use Rattle.manifest.specs.Tree.{Tree}
use Rattle.entry_table.specs.EntryPlaces.{Climbs}
use Rattle.entry_table.specs.Entries.{IsFileOf, entry_of, number_of_kept}
use Rattle.entry_table.specs.declared.kept.Kept.{Kept}
use Rattle.map_codec.specs.declared.directories.DirectoryEntry.{DirectoryEntry}
use Rattle.map_codec.specs.declared.directories.DirectoryEntry.TheVariants.{At, Missing, Unwanted}
use Rattle.map_codec.specs.Raising.{has_parent}

-- each entry names a file
abbrev pub EachNames : Tree → List Kept → Type 0
EachNames tree entries =
    AllByRecursion (λ (kept : Kept). (file : FileId) × IsFileOf tree entries kept.number.0 file) entries

-- the entry of a number stands at this index
pub record IsPlaceOf (entries : List Kept) (n i : ℕ) : Type 0 where
  pub kept : Kept
  pub stands : slice_get entries i ≡ Some kept
  pub entry : entry_of entries n ≡ Some kept

-- the number of the entry at an index
abbrev pub number_at : List Kept → ℕ → Number
number_at entries i = option_map_or number_of_kept (slice_get entries i) (record { 0 = 0 })

-- the entry of a directory stands at this index; the root has no entry
abbrev pub IsDirectoryAt : List Kept → ℕ → Option ℕ → Type 0
IsDirectoryAt entries n (Some i) = IsPlaceOf entries n i
IsDirectoryAt entries n None = n ≡ 1

-- the entry of the directory in which a place is stands at this index; a mark is in no directory
abbrev pub IsDirectoryOf : List Kept → Place → Option ℕ → Type 0
IsDirectoryOf entries (Linked dir name) at = IsDirectoryAt entries dir.0 at
IsDirectoryOf entries (Unlinked file) at = at ≡ None

-- this is known of a place's directory: it needs no entry, its entry stands at this index, or its entry is missing
abbrev pub TellsDirectory : List Kept → Place → DirectoryEntry → Type 0
TellsDirectory entries place Unwanted = (has_parent entries place ≡ true) × IsDirectoryOf entries place None
TellsDirectory entries place (At i) = (has_parent entries place ≡ true) × IsDirectoryOf entries place (Some i)
TellsDirectory entries place Missing = has_parent entries place ≡ false

-- for each entry, the index of its directory's entry; None if the entry stands in the root or is unlinked
pub record AreDirectories (entries : List Kept) (places : List (Option ℕ)) : Type 0 where
  pub len : length places ≡ length entries
  pub each : (i : ℕ) (kept : Kept) (at : Option ℕ) → slice_get entries i ≡ Some kept → slice_get places i ≡ Some at →
      IsDirectoryOf entries kept.place at

-- a number names no file, whatever the tree
abbrev pub NamesNone : List Kept → ℕ → Type 0
NamesNone entries n = (tree : Tree) (file : FileId) → IsFileOf tree entries n file → ⊥

-- for each entry, the file that it names, if that was found
pub record AreFound (tree : Tree) (entries : List Kept) (found : List (Option FileId)) : Type 0 where
  pub len : length found ≡ length entries
  pub each : (i : ℕ) (kept : Kept) (file : FileId) → slice_get entries i ≡ Some kept →
      slice_get found i ≡ Some (Some file) → IsFileOf tree entries kept.number.0 file

-- a way up from the entry at an index to a number that names this file, as the indices of the entries on the way
pub record IsWayTo (tree : Tree) (entries : List Kept) (place : ℕ) (way : List ℕ) (file : FileId) : Type 0 where
  pub top : ℕ
  pub climbs : Climbs entries (number_at entries place).0 (map (number_at entries) way) top
  pub inside : All (λ i. i < length entries) way
  pub names : IsFileOf tree entries top file
