-- An image that is fed to a reader in pieces: the answer to each piece, and where reading goes on.
use Rattle.std.specs.Prelude.{◌≡◌, ◌≤◌, ℕ, Bool, false, ◌==◌, List, [], ◌++◌, length, Option, Some, None, Result, Ok, Err}
use Rattle.byte_codec.specs.Field.{AreBytes}
use Rattle.byte_codec.specs.Reading.{◌>>=◌, number_at}
use Rattle.checkout.specs.declared.changes.Made.{Made}
use Rattle.manifest.specs.declared.link_change.LinkChange.{LinkChange}
use Rattle.entry_table.specs.declared.kept.Kept.{Kept}
use Rattle.map_image.specs.declared.fault.ImageFault.{ImageFault}
use Rattle.map_image.specs.declared.fault.ImageFault.TheVariants.{Short, ZeroUse, NoMemory}
use Rattle.map_image.specs.declared.header.ImageHeader.{ImageHeader}
use Rattle.map_image.specs.declared.image.Image.{Image}
use Rattle.map_image.specs.declared.reading.Front.{Front}
use Rattle.map_image.specs.declared.reading.Mark.{Mark}
use Rattle.map_image.specs.declared.reading.Reading.{Reading}
use Rattle.map_image.specs.declared.reading.Stage.{Stage}
use Rattle.map_image.specs.declared.reading.Stage.TheVariants.{AtFront, AtEntries, AtMade, AtLinks}
use Rattle.map_image.specs.declared.version.VersionForm.{VersionForm}
use Rattle.map_image.specs.ImageReading.{entry_at, form_at, header_at, image_of_bytes, image_with, last_of, link_at, made_at, magic_at, members_at, seen_whole}
use Rattle.map_image.specs.Usage.{HasParents}
use Rattle.map_image.specs.Versions.{length_width}

-- ---- answers

-- this fault, if it stays whatever bytes follow. A field that is cut off may be completed, and entries of no use are
-- seen only after the last field. A lack of memory says nothing of the bytes.
abbrev pub lasting : ImageFault → Option ImageFault
lasting Short = None
lasting ZeroUse = None
lasting NoMemory = None
lasting fault = Some fault

abbrev pub standing : Result Image ImageFault → Option ImageFault
standing (Ok image) = None
standing (Err fault) = lasting fault

-- the fault of every image that begins with these bytes, if it is known yet
abbrev pub standing_fault : List ℕ → Option ImageFault
standing_fault bytes = standing (image_of_bytes bytes)

-- a reader that returned this fault took the piece; if memory was refused, the reader is unchanged
abbrev pub TakesAt : List ℕ → List ℕ → ImageFault → List ℕ → Type 0
TakesAt old piece NoMemory new = new ≡ old
TakesAt old piece fault new = new ≡ old ++ piece

-- a reader took a piece; if memory was refused, the reader is unchanged
abbrev pub Takes : {X : Type 0} → List ℕ → List ℕ → Result X ImageFault → List ℕ → Type 0
Takes old piece (Ok done) new = new ≡ old ++ piece
Takes old piece (Err fault) new = TakesAt old piece fault new

-- the fault that was returned is that of every image that begins with these bytes, or it is NoMemory
abbrev pub Stands : List ℕ → ImageFault → Type 0
Stands bytes NoMemory = Unit {0}
Stands bytes fault = standing_fault bytes ≡ Some fault

-- the result for these bytes says the fault of every image that begins with them, or that none is known yet
abbrev pub IsAnswer : {X : Type 0} → Result X ImageFault → List ℕ → Type 0
IsAnswer (Ok done) bytes = standing_fault bytes ≡ None
IsAnswer (Err fault) bytes = Stands bytes fault

-- ---- what is read from a stage on

-- how a member is read after the last one
abbrev pub Member : Type 0 → Type 0
Member X = Option X → List ℕ → Result (X × List ℕ) ImageFault

-- the members that were read, followed by this count of members from the bytes; and the rest
abbrev pub members_from : {X : Type 0} → Member X → List X → ℕ → List ℕ → Result (List X × List ℕ) ImageFault
members_from member done count bytes = do
  others ← members_at member (last_of done) count bytes
  Ok (done ++ others.0, others.1)

-- the image, with this count of changed names still to be read from the bytes; the whole is then checked
abbrev pub links_on : ImageHeader → List Kept → List Made → List LinkChange → ℕ → List ℕ → Result Image ImageFault
links_on header entries made links count bytes = do
  all ← members_from link_at links count bytes
  seen_whole (
    image_with header entries (record { made = made; links = all.0; next_file = record { 0 = header.next_file } }),
    all.1,
  )

-- the image, with this count of made files still to be read from the bytes, and what follows these
abbrev pub made_on : ImageHeader → List Kept → List Made → List LinkChange → ℕ → List ℕ → Result Image ImageFault
made_on header entries made links count bytes = do
  all ← members_from made_at made count bytes
  next ← number_at Short length_width all.1
  links_on header entries all.0 links next.0 next.1

-- the image, with this count of entries still to be read from the bytes, and what follows these
abbrev pub entries_on : VersionForm → ImageHeader → List Kept → List Made → List LinkChange → ℕ → List ℕ
    → Result Image ImageFault
entries_on form header entries made links count bytes = do
  all ← members_from (entry_at form) entries count bytes
  next ← number_at Short length_width all.1
  made_on header all.0 made links next.0 next.1

-- what stands before the first entry, and the rest
unfoldable pub front_at : List ℕ → Result (Front × List ℕ) ImageFault
front_at bytes = do
  fields ← magic_at bytes
  form ← form_at fields
  header ← header_at form.0.named_by form.1
  count ← number_at Short length_width header.1
  Ok (record { form = form.0; header = header.0; count = count.0 }, count.1)

-- the image, of which a front was read up to this stage and these bytes are the rest, or the first fault
abbrev pub resumed_at : Stage → List Kept → List Made → List LinkChange → List ℕ → Result Image ImageFault
resumed_at AtFront entries made links bytes = do
  front ← front_at bytes
  entries_on front.0.form front.0.header entries made links front.0.count front.1
resumed_at (AtEntries form header left) entries made links bytes = entries_on form header entries made links left bytes
resumed_at (AtMade header left) entries made links bytes = made_on header entries made links left bytes
resumed_at (AtLinks header left) entries made links bytes = links_on header entries made links left bytes

unfoldable pub resumed : Reading → List ℕ → Result Image ImageFault
resumed reading bytes = resumed_at reading.stage reading.entries.items reading.made.items reading.links.items bytes

-- ---- steps of a reader

-- nothing is left to read of the image
abbrev pub is_whole : Stage → List ℕ → Bool
is_whole (AtLinks header left) [] = left == 0
is_whole stage bytes = false

-- the next field is cut off, or nothing is left to read
abbrev pub IsCut : Reading → List ℕ → Type 0
IsCut reading bytes = is_whole reading.stage bytes ≡ false → resumed reading bytes ≡ Err Short

-- how many stages reading has passed
abbrev pub rank : Stage → ℕ
rank AtFront = 0
rank (AtEntries form header left) = 1
rank (AtMade header left) = 2
rank (AtLinks header left) = 3

-- in the stages up to this one, the next field is cut off, or nothing is left to read
abbrev pub IsCutTo : ℕ → Reading → List ℕ → Type 0
IsCutTo last reading bytes = rank reading.stage ≤ last → IsCut reading bytes

-- the new list begins with the old one
abbrev pub Extends : {X : Type 0} → List X → List X → Type 0
Extends {X = X} old new = (more : List X) × (new ≡ old ++ more)

-- the new lists begin with the old ones
pub record OnlyAdds (old new : Reading) : Type 0 where
  pub entries : Extends old.entries.items new.entries.items
  pub parents : Extends old.parents.items new.parents.items
  pub made : Extends old.made.items new.made.items
  pub links : Extends old.links.items new.links.items

-- the two have read the same
pub record IsSame (old new : Reading) : Type 0 where
  pub stage : new.stage ≡ old.stage
  pub entries : new.entries.items ≡ old.entries.items
  pub parents : new.parents.items ≡ old.parents.items
  pub made : new.made.items ≡ old.made.items
  pub links : new.links.items ≡ old.links.items

-- the mark says how far this reading has come
pub record IsMark (reading : Reading) (mark : Mark) : Type 0 where
  pub stage : mark.stage ≡ reading.stage
  pub entries : mark.entries ≡ length reading.entries.items
  pub parents : mark.parents ≡ length reading.parents.items
  pub made : mark.made ≡ length reading.made.items
  pub links : mark.links ≡ length reading.links.items

-- reading went on from these bytes to this rest of them
abbrev pub GoesOn : Reading → List ℕ → Reading → List ℕ → Type 0
GoesOn old bytes new rest = (more : List ℕ) → resumed old (bytes ++ more) ≡ resumed new (rest ++ more)

-- whatever follows these bytes, this is the fault
pub record IsRefused (old : Reading) (bytes : List ℕ) (fault : ImageFault) : Type 0 where
  pub lasts : lasting fault ≡ Some fault
  pub fails : (more : List ℕ) → resumed old (bytes ++ more) ≡ Err fault

-- the fault that was returned is that of the bytes, whatever follows, or it is NoMemory
abbrev pub Stops : Reading → List ℕ → ImageFault → Type 0
Stops old bytes NoMemory = Unit {0}
Stops old bytes fault = IsRefused old bytes fault

-- reading took what is whole of these bytes, and returned the rest, seen by `view`, or a fault
abbrev pub Reads : {R : Type 0} → (R → List ℕ) → Reading → List ℕ → Reading → Result R ImageFault → Type 0
Reads view old bytes new (Ok rest) = GoesOn old bytes new (view rest)
Reads view old bytes new (Err fault) = Stops old bytes fault

-- the directories in which the entries stand are known
abbrev pub KnowsParents : Reading → Type 0
KnowsParents reading = HasParents reading.entries.items reading.parents.items

-- ---- steps within a list

-- reading went on through some members, to those that are left
pub record GoesOnIn {X : Type 0} (member : Member X) (old : List X) (count : ℕ) (bytes : List ℕ) (new : List X)
    (left : ℕ) (rest : List ℕ) : Type 0 where
  pub goes_on : (more : List ℕ)
      → members_from member old count (bytes ++ more) ≡ members_from member new left (rest ++ more)
  pub cut : (left ≡ 0 → ⊥) → members_from member new left rest ≡ Err Short

-- whatever follows these bytes, a member has this fault
pub record IsRefusedIn {X : Type 0} (member : Member X) (old : List X) (count : ℕ) (bytes : List ℕ)
    (fault : ImageFault) : Type 0 where
  pub lasts : lasting fault ≡ Some fault
  pub fails : (more : List ℕ) → members_from member old count (bytes ++ more) ≡ Err fault

-- the fault that was returned is that of a member, whatever follows, or it is NoMemory
abbrev pub StopsIn : {X : Type 0} → Member X → List X → ℕ → List ℕ → ImageFault → Type 0
StopsIn member old count bytes NoMemory = Unit {0}
StopsIn member old count bytes fault = IsRefusedIn member old count bytes fault

-- Members were read up to the first that isn't whole. `view` tells how many are left to read, and the bytes that were
-- not read.
abbrev pub ReadsIn : {X R : Type 0} → (R → ℕ × List ℕ) → Member X → List X → ℕ → List ℕ → List X
    → Result R ImageFault → Type 0
ReadsIn view member old count bytes new (Ok x) = GoesOnIn member old count bytes new (view x).0 (view x).1
ReadsIn view member old count bytes new (Err fault) = StopsIn member old count bytes fault

-- ---- readers

-- what holds of a reader that met no fault
pub record IsReading (taken : List ℕ) (reading : Reading) (tail : List ℕ) : Type 0 where
  pub are : AreBytes taken
  pub goes_on : (more : List ℕ) → image_of_bytes (taken ++ more) ≡ resumed reading (tail ++ more)
  pub cut : IsCut reading tail
  pub parents : KnowsParents reading

-- what holds of a reader that met this fault
pub record IsFailed (taken : List ℕ) (fault : ImageFault) : Type 0 where
  pub are : AreBytes taken
  pub lasts : lasting fault ≡ Some fault
  pub fails : (more : List ℕ) → image_of_bytes (taken ++ more) ≡ Err fault

abbrev pub IsReader : List ℕ → Reading → List ℕ → Option ImageFault → Type 0
IsReader taken reading tail None = IsReading taken reading tail
IsReader taken reading tail (Some fault) = IsFailed taken fault

-- a piece led to this fault; if memory was refused, nothing changed
abbrev pub FeedsAt : Reading → List ℕ → List ℕ → Reading → List ℕ → ImageFault → Type 0
FeedsAt old tail piece new rest NoMemory = IsSame old new × (rest ≡ tail)
FeedsAt old tail piece new rest fault = IsRefused old (tail ++ piece) fault

-- how a piece changed what was read and the tail
abbrev pub Feeds : {X : Type 0} → Reading → List ℕ → List ℕ → Reading → List ℕ → Result X ImageFault → Type 0
Feeds old tail piece new rest (Ok done) = GoesOn old (tail ++ piece) new rest × IsCut new rest
Feeds old tail piece new rest (Err fault) = FeedsAt old tail piece new rest fault
