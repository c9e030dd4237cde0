-- The image of bytes is what a reader resumes that took nothing.
use Rattle.std.proofs.Common.{◌≡◌, ℕ, List, [], ◌++◌, None, Result, Ok, Err, refl, sym, ap, ◌∙◌}
use Rattle.byte_codec.specs.Reading.{◌>>=◌, number_at}
use Rattle.byte_codec.proofs.StepLemmas.{bind_assoc}
use Rattle.checkout.specs.declared.changes.Made.{Made}
use Rattle.checkout.specs.declared.changes.Changes.{Changes}
use Rattle.manifest.specs.declared.link_change.LinkChange.{LinkChange}
use Rattle.entry_table.specs.declared.kept.Kept.{Kept}
use Rattle.map_image.specs.declared.fault.ImageFault.{ImageFault}
use Rattle.map_image.specs.declared.fault.ImageFault.TheVariants as faults
use Rattle.map_image.specs.declared.fault.ImageFault.TheVariants.{Short}
use Rattle.map_image.specs.declared.header.ImageHeader.{ImageHeader}
use Rattle.map_image.specs.declared.image.Image.{Image}
use Rattle.map_image.specs.declared.reading.Front.{Front}
use Rattle.map_image.specs.declared.reading.Stage.TheVariants.{AtFront}
use Rattle.map_image.specs.declared.version.VersionForm.{VersionForm}
use Rattle.map_image.specs.Feeding.{Member, entries_on, front_at, links_on, made_on, members_from, resumed_at}
use Rattle.map_image.specs.ImageReading.{Fails, changes_at, entry_at, fields_at, form_at, header_at, header_of_bytes, image_of_bytes, image_with, link_at, list_at, made_at, magic_at, members_at, seen_whole}
use Rattle.map_image.specs.Versions.{length_width}

-- steps that agree
bind_same : {F A B : Type 0} (r : Result A F) (f g : A → Result B F) → ((x : A) → f x ≡ g x) → (r >>= f) ≡ (r >>= g)
bind_same (Ok x) f g same = same x
bind_same (Err fault) f g same = refl

-- none were read before
from_none : {X : Type 0} (member : Member X) (count : ℕ) (bytes : List ℕ) → members_from member [] count bytes ≡ members_at member None count bytes
from_none {X = X} member count bytes = all (members_at member None count bytes) where
  all : (r : Result (List X × List ℕ) ImageFault) → (r >>= λ (x : List X × List ℕ). Ok ([] ++ x.0, x.1)) ≡ r
  all (Ok x) = refl
  all (Err fault) = refl

-- a list that was not begun
list_first : {X Y : Type 0} (member : Member X) (behind : List X × List ℕ → Result Y ImageFault) (bytes : List ℕ) → (list_at member bytes >>= behind) ≡ (number_at Short length_width bytes >>= λ n. members_from member [] n.0 n.1 >>= behind)
unfolding list_at
list_first {X = X} member behind bytes =
    sym (bind_assoc (number_at Short length_width bytes) (λ (n : ℕ × List ℕ). members_at member None n.0 n.1) behind)
    ∙ bind_same (number_at Short length_width bytes) (λ n. members_at member None n.0 n.1 >>= behind) (λ n. members_from member [] n.0 n.1 >>= behind)
    (λ n. ap (λ (r : Result (List X × List ℕ) ImageFault). r >>= behind) (sym (from_none member n.0 n.1)))

-- the changes, and the whole
abbrev ended : ImageHeader → List Kept → Changes × List ℕ → Result Image ImageFault
ended header entries changes = seen_whole (image_with header entries changes.0, changes.1)

abbrev changed : ImageHeader → List Made → List LinkChange → Changes
changed header made links = record { made = made; links = links; next_file = record { 0 = header.next_file } }

changes_first : (header : ImageHeader) (entries : List Kept) (bytes : List ℕ) → (changes_at header.next_file bytes >>= ended header entries) ≡ (number_at Short length_width bytes >>= λ n. made_on header entries [] [] n.0 n.1)
unfolding changes_at
changes_first header entries bytes =
    sym (bind_assoc (list_at made_at bytes) (λ (made : List Made × List ℕ). list_at link_at made.1 >>= λ links. Ok (changed header made.0 links.0, links.1)) (ended header entries))
    ∙ bind_same (list_at made_at bytes) (λ made. (list_at link_at made.1 >>= λ links. Ok (changed header made.0 links.0, links.1)) >>= ended header entries) (λ made. number_at Short length_width made.1 >>= λ n. links_on header entries made.0 [] n.0 n.1)
    (λ made.
    sym (bind_assoc (list_at link_at made.1) (λ (links : List LinkChange × List ℕ). Ok (changed header made.0 links.0, links.1)) (ended header entries))
    ∙ list_first link_at (λ links. ended header entries (changed header made.0 links.0, links.1)) made.1)
    ∙ list_first made_at (λ made. number_at Short length_width made.1 >>= λ n. links_on header entries made.0 [] n.0 n.1) bytes

-- what follows the header
abbrev behind_header : VersionForm → ImageHeader → List ℕ → Result (Image × List ℕ) ImageFault
behind_header form header bytes = list_at (entry_at form) bytes >>= λ entries. changes_at header.next_file entries.1 >>= λ changes. Ok (image_with header entries.0 changes.0, changes.1)

lists_first : (form : VersionForm) (header : ImageHeader) (bytes : List ℕ) → (behind_header form header bytes >>= seen_whole) ≡ (number_at Short length_width bytes >>= λ n. entries_on form header [] [] [] n.0 n.1)
lists_first form header bytes =
    sym (bind_assoc (list_at (entry_at form) bytes) (λ (entries : List Kept × List ℕ). changes_at header.next_file entries.1 >>= λ changes. Ok (image_with header entries.0 changes.0, changes.1)) seen_whole)
    ∙ bind_same (list_at (entry_at form) bytes) (λ entries. (changes_at header.next_file entries.1 >>= λ changes. Ok (image_with header entries.0 changes.0, changes.1)) >>= seen_whole) (λ entries. number_at Short length_width entries.1 >>= λ n. made_on header entries.0 [] [] n.0 n.1)
    (λ entries.
    sym (bind_assoc (changes_at header.next_file entries.1) (λ (changes : Changes × List ℕ). Ok (image_with header entries.0 changes.0, changes.1)) seen_whole)
    ∙ changes_first header entries.0 entries.1)
    ∙ list_first (entry_at form) (λ entries. number_at Short length_width entries.1 >>= λ n. made_on header entries.0 [] [] n.0 n.1) bytes

-- entries, where the front was read
abbrev behind_front : Front × List ℕ → Result Image ImageFault
behind_front front = entries_on front.0.form front.0.header [] [] [] front.0.count front.1

abbrev front_of : VersionForm → ImageHeader → ℕ → Front
front_of form header count = record { form = form; header = header; count = count }

header_first : (form : VersionForm) (bytes : List ℕ) → ((header_at form.named_by bytes >>= λ header. behind_header form header.0 header.1) >>= seen_whole) ≡ ((header_at form.named_by bytes >>= λ header. number_at Short length_width header.1 >>= λ n. Ok (front_of form header.0 n.0, n.1)) >>= behind_front)
header_first form bytes = in_ (header_at form.named_by bytes) where
  in_ : (r : Result (ImageHeader × List ℕ) ImageFault) → ((r >>= λ (header : ImageHeader × List ℕ). behind_header form header.0 header.1) >>= seen_whole) ≡ ((r >>= λ (header : ImageHeader × List ℕ). number_at Short length_width header.1 >>= λ n. Ok (front_of form header.0 n.0, n.1)) >>= behind_front)
  in_ (Ok header) = lists_first form header.0 header.1 ∙ bind_assoc (number_at Short length_width header.1) (λ (n : ℕ × List ℕ). Ok (front_of form header.0 n.0, n.1)) behind_front
  in_ (Err fault) = refl

form_first : (bytes : List ℕ) → ((form_at bytes >>= λ form. header_at form.0.named_by form.1 >>= λ header. behind_header form.0 header.0 header.1) >>= seen_whole)
    ≡ ((form_at bytes >>= λ form. header_at form.0.named_by form.1 >>= λ header. number_at Short length_width header.1 >>= λ n. Ok (front_of form.0 header.0 n.0, n.1)) >>= behind_front)
form_first bytes = in_ (form_at bytes) where
  in_ : (r : Result (VersionForm × List ℕ) ImageFault) → ((r >>= λ (form : VersionForm × List ℕ). header_at form.0.named_by form.1 >>= λ header. behind_header form.0 header.0 header.1) >>= seen_whole)
      ≡ ((r >>= λ (form : VersionForm × List ℕ). header_at form.0.named_by form.1 >>= λ header. number_at Short length_width header.1 >>= λ n. Ok (front_of form.0 header.0 n.0, n.1)) >>= behind_front)
  in_ (Ok form) = header_first form.0 form.1
  in_ (Err fault) = refl

pub whole : (bytes : List ℕ) → image_of_bytes bytes ≡ resumed_at AtFront [] [] [] bytes
unfolding image_of_bytes fields_at front_at
whole bytes = in_ (magic_at bytes) where
  in_ : (r : Result (List ℕ) ImageFault) → ((r >>= λ (fields : List ℕ). form_at fields >>= λ form. header_at form.0.named_by form.1 >>= λ header. behind_header form.0 header.0 header.1) >>= seen_whole)
      ≡ ((r >>= λ (fields : List ℕ). form_at fields >>= λ form. header_at form.0.named_by form.1 >>= λ header. number_at Short length_width header.1 >>= λ n. Ok (front_of form.0 header.0 n.0, n.1)) >>= behind_front)
  in_ (Ok fields) = form_first fields
  in_ (Err fault) = refl

-- ---- a header that is wrong

err_first : {F A B C : Type 0} (r : Result A F) (f : A → Result B F) (g : A → Result C F) (fault : F) → ((x : A) → f x ≡ Err fault → g x ≡ Err fault) → (r >>= f) ≡ Err fault → (r >>= g) ≡ Err fault
err_first (Ok x) f g fault on e = on x e
err_first {F = F} (Err other) f g fault on e = let same : other ≡ fault = cc in ap (λ (x : F). Err x) same

fields_refused : (bytes : List ℕ) (fault : ImageFault) → header_of_bytes bytes ≡ Err fault → fields_at bytes ≡ Err fault
unfolding header_of_bytes fields_at
fields_refused bytes fault e =
    err_first (magic_at bytes) (λ fields. form_at fields >>= λ form. header_at form.0.named_by form.1 >>= λ header. Ok header.0) (λ fields. form_at fields >>= λ form. header_at form.0.named_by form.1 >>= λ header. behind_header form.0 header.0 header.1) fault
    (λ fields. err_first (form_at fields) (λ form. header_at form.0.named_by form.1 >>= λ header. Ok header.0) (λ form. header_at form.0.named_by form.1 >>= λ header. behind_header form.0 header.0 header.1) fault
    (λ form. err_first (header_at form.0.named_by form.1) (λ header. Ok header.0) (λ header. behind_header form.0 header.0 header.1) fault (λ header no. absurd cc))) e

-- the fault of a header is that of its image
pub header_refused : (bytes : List ℕ) (fault : ImageFault) → header_of_bytes bytes ≡ Err fault → image_of_bytes bytes ≡ Err fault
unfolding image_of_bytes
header_refused bytes fault e = rw (fields_refused bytes fault e) refl

-- it is told
pub told : {X : Type 0} (read : Result X ImageFault) (fault : ImageFault) → read ≡ Err fault → Fails fault read
told read faults.NoMemory e = tt
told read faults.BadMagic e = e
told read faults.BadVersion e = e
told read faults.Short e = e
told read faults.Rest e = e
told read faults.NotRising e = e
told read faults.BadName e = e
told read faults.BadMark e = e
told read faults.ZeroUse e = e
