-- The one text of an image in a version: its fields from front to back, numbers with the highest byte first. (This
-- project's own; EdenFS serialises its inode map by Thrift.)
use Rattle.std.specs.Prelude.{All, ◌≡◌, ℕ, ◌<◌, ◌≤◌, ◌^◌, List, [], ◌∷◌, ◌++◌, length, Option, Some, None}
use Rattle.std.specs.Int.{w16, w64}
use Rattle.std.specs.List.{flat_map}
use Rattle.byte_codec.specs.Field.{byte_text, number_bytes}
use Rattle.eden_base.specs.declared.attr.MadeKind.{MadeKind}
use Rattle.eden_base.specs.declared.attr.MadeKind.TheVariants.{Dir, File as RegularFile}
use Rattle.eden_base.specs.declared.number.FileId.{FileId}
use Rattle.eden_base.specs.declared.place.Place.{Place}
use Rattle.eden_base.specs.declared.place.Place.TheVariants.{Linked, Unlinked}
use Rattle.checkout.specs.declared.changes.Made.{Made}
use Rattle.manifest.specs.declared.link_change.LinkChange.{LinkChange}
use Rattle.entry_table.specs.declared.kept.Kept.{Kept}
use Rattle.map_image.specs.declared.image.Image.{Image}
use Rattle.map_image.specs.Fit.{IsFit}
use Rattle.map_image.specs.Versions.{form_of, length_limit, length_width, width_of}
use Rattle.map_image.specs.declared.version.CountWidth.{CountWidth}
use Rattle.map_image.specs.declared.version.VersionForm.{VersionForm}

-- ---- fields

-- the bytes `EDTK`
unfoldable pub magic : List ℕ
magic = 69 ∷ 68 ∷ 84 ∷ 75 ∷ []

-- a name: its length in one byte, and its bytes
abbrev pub name_text : List ℕ → List ℕ
name_text name = byte_text (length name) ++ name

-- the mark of a place: 0 if a name leads to the entry, else 1
abbrev pub place_mark : Place → ℕ
place_mark (Linked parent name) = 0
place_mark (Unlinked file) = 1

abbrev pub place_text : Place → List ℕ
place_text (Linked parent name) = number_bytes w64 parent.0 ++ name_text name
place_text (Unlinked file) = number_bytes w64 file.0

abbrev pub kind_mark : MadeKind → ℕ
kind_mark RegularFile = 0
kind_mark Dir = 1

-- the file to which a changed name leads, after a mark: 1 if there is a file, else 0
abbrev pub target_text : Option FileId → List ℕ
target_text None = byte_text 0
target_text (Some file) = byte_text 1 ++ number_bytes w64 file.0

-- ---- members of the three lists

-- an entry: number, mark, count, place
abbrev pub entry_text : CountWidth → Kept → List ℕ
entry_text width kept =
    number_bytes w64 kept.number.0
    ++ (byte_text (place_mark kept.place) ++ (number_bytes (width_of width) kept.count ++ place_text kept.place))

-- a made file: id, kind, permissions
abbrev pub made_text : Made → List ℕ
made_text made =
    number_bytes w64 made.file.0 ++ (byte_text (kind_mark made.kind) ++ number_bytes w16 made.perm.bits)

-- a changed name: directory, name, file
abbrev pub link_text : LinkChange → List ℕ
link_text link = number_bytes w64 link.dir.0 ++ (name_text link.name ++ target_text link.target)

-- a list: how many members there are, and then each of them
abbrev pub list_text : {X : Type 0} → (X → List ℕ) → List X → List ℕ
list_text text xs = number_bytes length_width (length xs) ++ flat_map text xs

-- ---- the whole

-- the numbers before the lists: generation, next number, next file
abbrev pub numbers_text : Image → List ℕ
numbers_text image =
    number_bytes w64 image.generation
    ++ (number_bytes w64 image.next_number ++ number_bytes w64 image.changes.next_file.0)

-- what stands before the lists: magic, version, what names the manifest, and these numbers
abbrev pub header_text : ℕ → Image → List ℕ
header_text version image = magic ++ (number_bytes w16 version ++ (image.name.bytes ++ numbers_text image))

-- the lists: entries, made files, changed names
abbrev pub lists_text : CountWidth → Image → List ℕ
lists_text width image =
    list_text (entry_text width) image.entries
    ++ (list_text made_text image.changes.made ++ list_text link_text image.changes.links)

abbrev pub image_text : CountWidth → ℕ → Image → List ℕ
image_text width version image = header_text version image ++ lists_text width image

-- ---- numbers that fit their fields

abbrev pub FitsPlace : Place → Type 0
FitsPlace (Linked parent name) = parent.0 < 2 ^ 64
FitsPlace (Unlinked file) = file.0 < 2 ^ 64

pub record FitsEntry (greatest : ℕ) (kept : Kept) : Type 0 where
  pub number : kept.number.0 < 2 ^ 64
  pub count : kept.count ≤ greatest
  pub place : FitsPlace kept.place

abbrev pub FitsMade : Made → Type 0
FitsMade made = made.file.0 < 2 ^ 64

abbrev pub FitsTarget : Option FileId → Type 0
FitsTarget None = Unit {0}
FitsTarget (Some file) = file.0 < 2 ^ 64

pub record FitsLink (link : LinkChange) : Type 0 where
  pub dir : link.dir.0 < 2 ^ 64
  pub target : FitsTarget link.target

-- generation, next number and next file fit their fields
pub record FitsNumbers (image : Image) : Type 0 where
  pub generation : image.generation < 2 ^ 64
  pub next_number : image.next_number < 2 ^ 64
  pub next_file : image.changes.next_file.0 < 2 ^ 64

-- the lists can be counted, and their members fit their fields
pub record FitsMembers (greatest : ℕ) (image : Image) : Type 0 where
  pub entries_few : length image.entries < length_limit
  pub entries : All (FitsEntry greatest) image.entries
  pub made_few : length image.changes.made < length_limit
  pub made : All FitsMade image.changes.made
  pub links_few : length image.changes.links < length_limit
  pub links : All FitsLink image.changes.links

-- ---- the relation

-- the bytes are the text of an image in this version
pub record IsImageText (image : Image) (version : ℕ) (bytes : List ℕ) : Type 0 where
  pub form : VersionForm
  pub known : form_of version ≡ Some form
  pub is_fit : IsFit image
  pub named : image.name.by ≡ form.named_by
  pub name : length image.name.bytes ≡ 20
  pub numbers : FitsNumbers image
  pub members : FitsMembers form.greatest_count image
  pub is : bytes ≡ image_text form.count_width version image
