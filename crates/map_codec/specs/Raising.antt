-- What a daemon serves that is restored from an image over a manifest, and why an image is not restored. (This
-- project's own; EdenFS's daemon takes what it is sent as it is.)
use Rattle.std.specs.Prelude.{◌≡◌, ℕ, ◌<◌, ◌&&◌, Bool, true, false, nat_lt, nat_le, List, slice_get, Option, Some, None, is_some, Result, Ok, Err}
use Rattle.std.specs.List.{AllByRecursion, list_all}
use Rattle.eden_base.specs.Limits.{end_of_numbers}
use Rattle.eden_base.specs.declared.number.FileId.{FileId}
use Rattle.eden_base.specs.declared.memory.NoMemory.{NoMemory as Lack}
use Rattle.eden_base.specs.declared.place.Place.{Place}
use Rattle.eden_base.specs.declared.place.Place.TheVariants.{Linked, Unlinked}
use Rattle.checkout.specs.BadChanges.{bad_itself, IsBadChange}
use Rattle.checkout.specs.Changed.{changed}
use Rattle.manifest.specs.Manifest.{Manifest}
use Rattle.manifest.specs.Tree.{Tree, kind_of}
use Rattle.checkout.specs.ChangedTree.{is_unlinked}
use Rattle.entry_table.specs.Entries.{AreFilesOf, IsFileOf, is_known}
use Rattle.entry_table.specs.declared.kept.Kept.{Kept}
use Rattle.fuse_ops.specs.Served.{ServedState, served_of}
use Rattle.map_codec.specs.declared.fault.RaiseFault.{RaiseFault}
use Rattle.map_codec.specs.declared.fault.RaiseFault.TheVariants.{OtherManifest, BadChange, NoParent, NoLink, TwoNumbers, NumberTooHigh, NoMemory}
use Rattle.map_codec.specs.Taking.{IsNameOf}
use Rattle.map_image.specs.declared.image.Image.{Image}

-- the tree of a manifest with the changes that an image has
abbrev pub tree_told : Manifest → Image → Tree
tree_told m image = changed m image.changes

-- the directory of a place is the root, or has an entry
abbrev pub has_parent : List Kept → Place → Bool
has_parent entries (Linked parent name) = is_known entries parent.0
has_parent entries (Unlinked file) = true

abbrev pub have_parents : List Kept → Bool
have_parents entries = list_all (λ (kept : Kept). has_parent entries kept.place) entries

-- a place is linked, or its mark names an unlinked file of the tree
abbrev pub is_right_mark : Tree → Place → Bool
is_right_mark tree (Linked parent name) = true
is_right_mark tree (Unlinked file) = is_some (kind_of tree file) && is_unlinked tree file

-- an entry names a file, and its mark, if it has one, is right
abbrev pub HasFile : Tree → List Kept → Kept → Type 0
HasFile tree entries kept =
    ((file : FileId) × IsFileOf tree entries kept.number.0 file) × (is_right_mark tree kept.place ≡ true)

abbrev pub HaveFiles : Tree → List Kept → Type 0
HaveFiles tree entries = AllByRecursion (HasFile tree entries) entries

-- two entries name one file, as two entries of one place would
pub record AreOfOneFile (tree : Tree) (entries : List Kept) : Type 0 where
  pub one : ℕ
  pub other : ℕ
  pub one_kept : Kept
  pub other_kept : Kept
  pub file : FileId
  pub before : one < other
  pub one_stands : slice_get entries one ≡ Some one_kept
  pub other_stands : slice_get entries other ≡ Some other_kept
  pub one_names : IsFileOf tree entries one_kept.number.0 file
  pub other_names : IsFileOf tree entries other_kept.number.0 file

-- the next number is above that of each entry
abbrev pub are_below : ℕ → List Kept → Bool
are_below next entries = list_all (λ (kept : Kept). nat_lt kept.number.0 next) entries

-- the next number is from 2 to the end of numbers, and above that of each entry
abbrev pub is_next : ℕ → List Kept → Bool
is_next next entries =
    nat_le 2 next && nat_le next end_of_numbers && are_below next entries

-- these entries and this next number may be served over the tree
pub record AreRaisable (tree : Tree) (entries : List Kept) (next : ℕ) : Type 0 where
  pub parents : have_parents entries ≡ true
  pub files : HaveFiles tree entries
  pub apart : AreOfOneFile tree entries → ⊥
  pub next_is : is_next next entries ≡ true

-- this is the first fault of these entries and this next number, or None if they have none
abbrev pub StandsAgainst : Tree → List Kept → ℕ → Option RaiseFault → Type 0
StandsAgainst tree entries next None = AreRaisable tree entries next
StandsAgainst tree entries next (Some NoParent) = have_parents entries ≡ false
StandsAgainst tree entries next (Some NoLink) = (have_parents entries ≡ true) × (HaveFiles tree entries → ⊥)
StandsAgainst tree entries next (Some TwoNumbers) =
    (have_parents entries ≡ true) × HaveFiles tree entries × AreOfOneFile tree entries
StandsAgainst tree entries next (Some NumberTooHigh) =
    (have_parents entries ≡ true) × HaveFiles tree entries × (AreOfOneFile tree entries → ⊥)
    × (is_next next entries ≡ false)
StandsAgainst tree entries next (Some fault) = ⊥

-- the fault that is told in place of a result, if one is
abbrev pub fault_in : {X : Type 0} → Result X RaiseFault → Option RaiseFault
fault_in (Ok found) = None
fault_in (Err fault) = Some fault

-- what was found of the entries, or the fault NoMemory if memory was refused
abbrev pub entries_told : {X : Type 0} → Result (Result X RaiseFault) Lack → Result X RaiseFault
entries_told (Ok told) = told
entries_told (Err lack) = Err NoMemory

-- the image is of the manifest, and its changes make a tree
pub record TellsATree (m : Manifest) (image : Image) : Type 0 where
  pub name : IsNameOf m image.name
  pub changes : IsBadChange m image.changes None

-- an image may be restored over a manifest
pub record IsRaisable (m : Manifest) (image : Image) : Type 0 where
  pub tree : TellsATree m image
  pub entries : AreRaisable (tree_told m image) image.entries image.next_number

-- what is restored from an image, with these files remembered, one for each entry; nothing is loaded yet
abbrev pub raised : Manifest → Image → ℕ → List FileId → ServedState
raised m image limit files = served_of image.entries files image.next_number limit (tree_told m image)

-- this is restored from an image: the file that each entry names is remembered, and nothing is loaded yet
pub record IsRaised (m : Manifest) (image : Image) (limit : ℕ) (served : ServedState) : Type 0 where
  pub files : List FileId
  pub are : AreFilesOf (tree_told m image) image.entries files
  pub is : served ≡ raised m image limit files

-- an image is not restored for this cause: the first that applies; or NoMemory, if the manifest is right and no change
-- is bad in itself
abbrev pub IsRaiseRefusal : Manifest → Image → RaiseFault → Type 0
IsRaiseRefusal m image OtherManifest = IsNameOf m image.name → ⊥
IsRaiseRefusal m image (BadChange place) = IsNameOf m image.name × IsBadChange m image.changes (Some place)
IsRaiseRefusal m image NoMemory = IsNameOf m image.name × (bad_itself m image.changes ≡ None)
IsRaiseRefusal m image fault =
    TellsATree m image × StandsAgainst (tree_told m image) image.entries image.next_number (Some fault)

-- a file stands in the list twice
pub record IsTwice (files : List FileId) : Type 0 where
  pub one : ℕ
  pub other : ℕ
  pub file : FileId
  pub before : one < other
  pub one_stands : slice_get files one ≡ Some file
  pub other_stands : slice_get files other ≡ Some file

-- this is whether no file stands in the list twice
abbrev pub TellsApart : List FileId → Bool → Type 0
TellsApart files true = IsTwice files → ⊥
TellsApart files false = IsTwice files

-- each mark is right
abbrev pub are_right_marks : Tree → List Kept → Bool
are_right_marks tree entries = list_all (λ (kept : Kept). is_right_mark tree kept.place) entries
