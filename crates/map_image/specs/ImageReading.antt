-- Which image the bytes are, or their first fault. Fields are read from front to back, each once it is whole. After the
-- last field comes what can only be seen of the whole.
use Rattle.std.specs.Prelude.{◌≡◌, ◌≢◌, ◌≤◌, ℕ, zero, suc, ◌-◌, ◌%◌, Bool, true, false, ◌==◌, nat_lt, nat_le, List, [], ◌∷◌, length, slice_get, nat_eq, Option, Some, None, is_some, Result, Ok, Err, if◌then◌else◌}
use Rattle.std.proofs.Common.{arith}
use Rattle.std.specs.Cmp.Lexicographic.{pointwise}
use Rattle.std.specs.Int.{w16, w64}
use Rattle.std.specs.List.{list_all}
use Rattle.byte_codec.specs.Reading.{◌>>=◌, byte_at, bytes_at, number_at}
use Rattle.eden_base.specs.declared.attr.MadeKind.{MadeKind}
use Rattle.eden_base.specs.declared.attr.MadeKind.TheVariants.{Dir, File as RegularFile}
use Rattle.eden_base.specs.declared.attr.Perm.{Perm}
use Rattle.eden_base.specs.Name.{name_fault}
use Rattle.eden_base.specs.declared.number.FileId.{FileId}
use Rattle.eden_base.specs.declared.place.Place.{Place}
use Rattle.eden_base.specs.declared.place.Place.TheVariants.{Linked, Unlinked}
use Rattle.checkout.specs.declared.changes.Made.{Made}
use Rattle.manifest.specs.declared.link_change.LinkChange.{LinkChange}
use Rattle.checkout.specs.declared.changes.Changes.{Changes}
use Rattle.entry_table.specs.declared.kept.Kept.{Kept}
use Rattle.entry_table.specs.Entries.{is_of_use}
use Rattle.map_image.specs.declared.fault.ImageFault.{ImageFault}
use Rattle.map_image.specs.declared.fault.ImageFault.TheVariants.{BadMagic, BadVersion, Short, Rest, NotRising, BadName, BadMark, ZeroUse, NoMemory}
use Rattle.map_image.specs.declared.image.Image.{Image}
use Rattle.map_image.specs.declared.header.ImageHeader.{ImageHeader}
use Rattle.map_image.specs.Fit.{is_next_number, is_next_file, is_next_place}
use Rattle.map_image.specs.ImageText.{magic}
use Rattle.map_image.specs.Versions.{form_of, length_width, width_of}
use Rattle.map_image.specs.declared.version.NamedBy.{NamedBy}
use Rattle.map_image.specs.declared.version.VersionForm.{VersionForm}

-- reading gives this fault, or it is NoMemory, which may come instead of any result
abbrev pub Fails : {Y : Type 0} → ImageFault → Result Y ImageFault → Type 0
Fails NoMemory read = Unit {0}
Fails fault read = read ≡ Err fault

-- a call returned what reading gives, seen by `view`, or NoMemory
abbrev pub Gives : {X Y : Type 0} → (X → Y) → Result X ImageFault → Result Y ImageFault → Type 0
Gives view (Ok x) read = read ≡ Ok (view x)
Gives view (Err fault) read = Fails fault read

-- a call that takes no memory returned what reading gives, seen by `view`
abbrev pub Tells : {X Y : Type 0} → (X → Y) → Result X ImageFault → Result Y ImageFault → Type 0
Tells view (Ok x) read = read ≡ Ok (view x)
Tells view (Err fault) read = (fault ≢ NoMemory) × (read ≡ Err fault)

-- the last of a list, if any
abbrev pub last_of : {X : Type 0} → List X → Option X
last_of xs = slice_get xs (length xs - 1)

-- ---- marks and names

-- a mark, one byte of value 0 or 1, as false or true; and the bytes after it
unfoldable pub mark_at : List ℕ → Result (Bool × List ℕ) ImageFault
mark_at bytes = do
  mark ← byte_at Short bytes
  if nat_lt 1 mark.0 then Err BadMark else Ok (mark.0 == 1, mark.1)

-- as many bytes as a length before them says, and the rest
unfoldable pub counted_at : List ℕ → Result (List ℕ × List ℕ) ImageFault
counted_at bytes = do
  len ← byte_at Short bytes
  bytes_at Short len.0 len.1

-- these bytes and the rest if they are a name, else BadName
abbrev pub named : List ℕ × List ℕ → Result (List ℕ × List ℕ) ImageFault
named field = if is_some (name_fault field.0) then Err BadName else Ok field

-- a name after its length, and the rest
unfoldable pub name_at : List ℕ → Result (List ℕ × List ℕ) ImageFault
name_at bytes = do
  field ← counted_at bytes
  named field

-- the place of an entry, as its mark says, and the rest
unfoldable pub place_at : Bool → List ℕ → Result (Place × List ℕ) ImageFault
place_at true bytes = do
  file ← number_at Short w64 bytes
  Ok (Unlinked (record { 0 = file.0 }), file.1)
place_at false bytes = do
  parent ← number_at Short w64 bytes
  name ← name_at parent.1
  Ok (Linked (record { 0 = parent.0 }) name.0, name.1)

-- a number above that of the last entry, and the rest
unfoldable pub rising_at : Option Kept → List ℕ → Result (ℕ × List ℕ) ImageFault
rising_at last bytes = do
  n ← number_at Short w64 bytes
  if is_next_number last n.0 then Ok n else Err NotRising

-- ---- members of the three lists, each after the last one; and the rest

-- a count, at most the greatest one of the version, and the rest
unfoldable pub count_at : VersionForm → List ℕ → Result (ℕ × List ℕ) ImageFault
count_at form bytes = do
  count ← number_at Short (width_of form.count_width) bytes
  if nat_le count.0 form.greatest_count then Ok count else Err BadMark

unfoldable pub entry_at : VersionForm → Option Kept → List ℕ → Result (Kept × List ℕ) ImageFault
entry_at form last bytes = do
  number ← rising_at last bytes
  unlinked ← mark_at number.1
  count ← count_at form unlinked.1
  place ← place_at unlinked.0 count.1
  Ok (record { number = record { 0 = number.0 }; place = place.0; count = count.0 }, place.1)

-- a file's id above that of the last made one, and the rest
unfoldable pub file_at : Option Made → List ℕ → Result (ℕ × List ℕ) ImageFault
file_at last bytes = do
  n ← number_at Short w64 bytes
  if is_next_file last n.0 then Ok n else Err NotRising

-- the kind that a mark says
abbrev pub kind_of_mark : Bool → MadeKind
kind_of_mark true = Dir
kind_of_mark false = RegularFile

-- the low twelve bits are at most 4095
pub low_bits : (n : ℕ) → n % 4096 ≤ 4095
low_bits n = omega arith

-- the permissions in twelve bits
abbrev pub perm_of : ℕ → Perm
perm_of bits = record { bits = bits % 4096; in_range = low_bits bits }

-- permissions, with no bit above the twelfth, and the rest
unfoldable pub perm_at : List ℕ → Result (Perm × List ℕ) ImageFault
perm_at bytes = do
  bits ← number_at Short w16 bytes
  if nat_lt 4095 bits.0 then Err BadMark else Ok (perm_of bits.0, bits.1)

unfoldable pub made_at : Option Made → List ℕ → Result (Made × List ℕ) ImageFault
made_at last bytes = do
  file ← file_at last bytes
  is_dir ← mark_at file.1
  perm ← perm_at is_dir.1
  Ok (record { file = record { 0 = file.0 }; kind = kind_of_mark is_dir.0; perm = perm.0 }, perm.1)

-- a name in a directory that comes after the last one, and the rest; the order is checked before the bytes are as a
-- name
unfoldable pub rising_place : Option LinkChange → ℕ → List ℕ × List ℕ → Result (List ℕ × List ℕ) ImageFault
rising_place last dir field = if is_next_place last dir field.0 then named field else Err NotRising

-- the file to which a changed name leads, if its mark says that there is one, and the rest
unfoldable pub target_at : Bool → List ℕ → Result (Option FileId × List ℕ) ImageFault
target_at false bytes = Ok (None, bytes)
target_at true bytes = do
  file ← number_at Short w64 bytes
  Ok (Some (record { 0 = file.0 }), file.1)

unfoldable pub link_at : Option LinkChange → List ℕ → Result (LinkChange × List ℕ) ImageFault
link_at last bytes = do
  dir ← number_at Short w64 bytes
  field ← counted_at dir.1
  name ← rising_place last dir.0 field
  there ← mark_at name.1
  target ← target_at there.0 there.1
  Ok (record { dir = record { 0 = dir.0 }; name = name.0; target = target.0 }, target.1)

-- ---- lists

-- this count of members, each after the last one, and the rest
unfoldable pub members_at : {X : Type 0} → (Option X → List ℕ → Result (X × List ℕ) ImageFault) → Option X → ℕ → List ℕ
    → Result (List X × List ℕ) ImageFault
members_at member last zero bytes = Ok ([], bytes)
members_at member last (suc n) bytes = do
  first ← member last bytes
  others ← members_at member (Some first.0) n first.1
  Ok (first.0 ∷ others.0, others.1)

-- a list: how many members there are, and then each of them; and the rest
unfoldable pub list_at : {X : Type 0} → (Option X → List ℕ → Result (X × List ℕ) ImageFault) → List ℕ
    → Result (List X × List ℕ) ImageFault
list_at member bytes = do
  count ← number_at Short length_width bytes
  members_at member None count.0 count.1

-- ---- the whole

-- what follows `EDTK`, or the fault
unfoldable pub magic_at : List ℕ → Result (List ℕ) ImageFault
magic_at bytes = do
  field ← bytes_at Short 4 bytes
  if pointwise nat_eq field.0 magic then Ok field.1 else Err BadMagic

-- the form of a version, if there is such a version, else BadVersion
abbrev pub known : Option VersionForm → List ℕ → Result (VersionForm × List ℕ) ImageFault
known None bytes = Err BadVersion
known (Some form) bytes = Ok (form, bytes)

-- the form of the version that comes next, and the rest
unfoldable pub form_at : List ℕ → Result (VersionForm × List ℕ) ImageFault
form_at bytes = do
  version ← number_at Short w16 bytes
  known (form_of version.0) version.1

-- a header: what names the manifest, generation, next number, next file; and the rest
unfoldable pub header_at : NamedBy → List ℕ → Result (ImageHeader × List ℕ) ImageFault
header_at by bytes = do
  name ← bytes_at Short 20 bytes
  generation ← number_at Short w64 name.1
  number ← number_at Short w64 generation.1
  file ← number_at Short w64 number.1
  Ok (
    record {
      name = record { by = by; bytes = name.0 };
      generation = generation.0;
      next_number = number.0;
      next_file = file.0;
    },
    file.1,
  )

-- the header of bytes that begin as an image, or their first fault up to there
unfoldable pub header_of_bytes : List ℕ → Result ImageHeader ImageFault
header_of_bytes bytes = do
  fields ← magic_at bytes
  form ← form_at fields
  header ← header_at form.0.named_by form.1
  Ok header.0

-- the bytes have a header that is whole and right
abbrev pub HasHeader : List ℕ → Type 0
HasHeader bytes = (header : ImageHeader) × (header_of_bytes bytes ≡ Ok header)

-- a reader returns NoMemory only for bytes whose header is whole and right
abbrev pub IsLate : ImageFault → List ℕ → Type 0
IsLate fault bytes = fault ≡ NoMemory → HasHeader bytes

-- made files and changed names, and the rest
unfoldable pub changes_at : ℕ → List ℕ → Result (Changes × List ℕ) ImageFault
changes_at next_file bytes = do
  made ← list_at made_at bytes
  links ← list_at link_at made.1
  Ok (record { made = made.0; links = links.0; next_file = record { 0 = next_file } }, links.1)

-- an image of these fields
abbrev pub image_with : ImageHeader → List Kept → Changes → Image
image_with header entries changes = record {
  name = header.name;
  generation = header.generation;
  next_number = header.next_number;
  entries = entries;
  changes = changes;
}

-- every field of an image, and the rest
unfoldable pub fields_at : List ℕ → Result (Image × List ℕ) ImageFault
fields_at bytes = do
  fields ← magic_at bytes
  form ← form_at fields
  header ← header_at form.0.named_by form.1
  entries ← list_at (entry_at form.0) header.1
  changes ← changes_at header.0.next_file entries.1
  Ok (image_with header.0 entries.0 changes.0, changes.1)

-- every entry is of use
abbrev pub are_of_use : List Kept → Bool
are_of_use entries = list_all (is_of_use entries) entries

-- the image, if no byte follows and each entry is of use, else the fault
abbrev pub seen_whole : Image × List ℕ → Result Image ImageFault
seen_whole image =
    if nat_lt 0 (length image.1) then Err Rest
    else if are_of_use image.0.entries then Ok image.0
    else Err ZeroUse

-- the image that the bytes are, or their first fault
unfoldable pub image_of_bytes : List ℕ → Result Image ImageFault
image_of_bytes bytes = do
  image ← fields_at bytes
  seen_whole image
