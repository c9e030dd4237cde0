-- Whole images: what is read is a text of it, and what is a text is read.
use Rattle.std.proofs.Common.{◌≡◌, ℕ, ◌^◌, ◌<◌, true, ltb, nat_eq, List, [], ◌∷◌, ◌++◌, length, Option, Some, None, Result, Ok, refl, sym, ap, subst, ◌∙◌, append_assoc, arith}
use Rattle.std.specs.Int.{w16, w64}
use Rattle.std.specs.List.{AllByRecursion}
use Rattle.std.specs.Cmp.Lexicographic.{pointwise}
use Rattle.std.proofs.lemmas.Bool.{and_parts, ltb-false, eqb-true}
use Rattle.std.proofs.lemmas.List.{append-nil, nil_from_length}
use Rattle.std.proofs.lemmas.List.Elements.{recursion_from_All, All-from_recursion}
use Rattle.byte_codec.specs.Field.{AreBytes, number_bytes}
use Rattle.byte_codec.specs.Reading.{◌>>=◌}
use Rattle.byte_codec.proofs.ByteLemmas.{both}
use Rattle.byte_codec.proofs.FieldLaws.{Found, bytes_found, bytes_again}
use Rattle.byte_codec.proofs.PairLaws.{IsCodec, codec_as, made, of_bytes, pair}
use Rattle.byte_codec.proofs.YieldLemmas.{Any, Yields, Value, Fault, if_yields, then_yields, unless_yields, yielded, yields_as}
use Rattle.eden_base.specs.Name.{IsNameText}
use Rattle.checkout.specs.declared.changes.Made.{Made}
use Rattle.manifest.specs.declared.link_change.LinkChange.{LinkChange}
use Rattle.checkout.specs.declared.changes.Changes.{Changes}
use Rattle.checkout.proofs.ChangeLists.{all_weaker}
use Rattle.entry_table.specs.declared.kept.Kept.{Kept}
use Rattle.map_image.specs.declared.fault.ImageFault.{ImageFault}
use Rattle.map_image.specs.declared.fault.ImageFault.TheVariants.{Short, BadMagic, Rest, ZeroUse}
use Rattle.map_image.specs.declared.header.ImageHeader.{ImageHeader}
use Rattle.map_image.specs.declared.image.Image.{Image}
use Rattle.entry_table.specs.EntryPlaces.{HasName}
use Rattle.map_image.specs.Fit.{entry_follows, made_follows, link_follows, IsFit}
use Rattle.map_image.specs.ImageText.{magic, entry_text, made_text, link_text, list_text, image_text, FitsEntry, FitsMade, FitsLink, FitsNumbers, FitsMembers, IsImageText}
use Rattle.map_image.specs.ImageReading.{entry_at, made_at, link_at, list_at, magic_at, known, form_at, header_at, changes_at, image_with, fields_at, are_of_use, image_of_bytes}
use Rattle.map_image.specs.Versions.{IsForm, form_of}
use Rattle.map_image.specs.declared.version.CountWidth.{CountWidth}
use Rattle.map_image.specs.declared.version.NamedBy.{NamedBy}
use Rattle.map_image.specs.declared.version.VersionForm.{VersionForm}
use Rattle.map_image.proofs.VersionLaws.{row}
use Rattle.map_image.proofs.FieldLaws.{of_eight, of_two}
use Rattle.map_image.proofs.Lengths.{length-magic}
use Rattle.map_image.proofs.ListLaws.{IsGoodList, of_list}
use Rattle.map_image.proofs.MemberLaws.{GoodEntry, GoodLink, of_entry, of_link, of_made}

-- ---- magic and version

same_bytes : (xs ys : List ℕ) → pointwise nat_eq xs ys ≡ true → xs ≡ ys
same_bytes [] [] e = refl
same_bytes [] (y ∷ ys) e = absurd cc
same_bytes (x ∷ xs) [] e = absurd cc
same_bytes (x ∷ xs) (y ∷ ys) e =
    let t = and_parts (nat_eq x y) (pointwise nat_eq xs ys) e in
    let first : x ≡ y = eqb-true x y t.0 in
    let rest : xs ≡ ys = same_bytes xs ys t.1 in
    rw (first, rest) refl

magic_same : pointwise nat_eq magic magic ≡ true
unfolding magic
magic_same = refl

pub record Front (text bytes rest : List ℕ) : Type 0 where
  pub parts : bytes ≡ text ++ rest
  pub rest_are : AreBytes rest

magic_found : (bytes : List ℕ) → AreBytes bytes → Yields Any (Front magic bytes) (magic_at bytes)
unfolding magic_at
magic_found bytes are =
    then_yields _ _ (bytes_found Short 4 bytes tt are) (λ field found.
    if_yields (pointwise nat_eq field.0 magic) BadMagic _ tt (λ alike.
    let same : field.0 ≡ magic = same_bytes field.0 magic alike in
    Value (record { parts = found.parts ∙ ap (λ (t : List ℕ). t ++ field.1) same; rest_are = found.rest })))

magic_again : (rest : List ℕ) → magic_at (magic ++ rest) ≡ Ok rest
unfolding magic_at
magic_again rest = rw (bytes_again Short 4 magic rest length-magic, magic_same) refl

-- a version was read
pub record IsVersion (version : ℕ) (bytes : List ℕ) (x : VersionForm × List ℕ) : Type 0 where
  pub known : form_of version ≡ Some x.0
  pub front : Front (number_bytes w16 version) bytes x.1

-- some version was read
abbrev SomeVersion : List ℕ → VersionForm × List ℕ → Type 0
SomeVersion bytes x = (version : ℕ) × IsVersion version bytes x

known_found : (version : ℕ) (bytes rest : List ℕ) (form : Option VersionForm) → form_of version ≡ form → Front (number_bytes w16 version) bytes rest → Yields Any (SomeVersion bytes) (known form rest)
known_found version bytes rest None e front = Fault tt
known_found version bytes rest (Some form) e front = Value (version, record { known = e; front = front })

form_found : (bytes : List ℕ) → AreBytes bytes → Yields Any (SomeVersion bytes) (form_at bytes)
unfolding form_at
form_found bytes are =
    then_yields _ _ (of_two.found bytes are) (λ version found.
    known_found version.0 bytes version.1 (form_of version.0) refl (record { parts = found.parts; rest_are = found.rest }))

form_again : (version : ℕ) (form : VersionForm) (rest : List ℕ) → form_of version ≡ Some form → form_at (number_bytes w16 version ++ rest) ≡ Ok (form, rest)
unfolding form_at
form_again version form rest is =
    ap (λ (r : Result (ℕ × List ℕ) ImageFault). r >>= λ v. known (form_of v.0) v.1) (of_two.again version rest (row version form is).version_has_room)
    ∙ ap (λ (o : Option VersionForm). known o rest) is

-- ---- name and numbers

abbrev pub text_of_header : ImageHeader → List ℕ
text_of_header h = h.name.bytes ++ (number_bytes w64 h.generation ++ (number_bytes w64 h.next_number ++ number_bytes w64 h.next_file))

pub record GoodHeader (by : NamedBy) (h : ImageHeader) : Type 0 where
  pub named : h.name.by ≡ by
  pub name : length h.name.bytes ≡ 20
  pub generation : h.generation < 2 ^ 64
  pub next_number : h.next_number < 2 ^ 64
  pub next_file : h.next_file < 2 ^ 64

-- the fields of a header that were read
record IsHeader (by : NamedBy) (name : List ℕ) (generation number : ℕ) (h : ImageHeader) : Type 0 where
  by_is : h.name.by ≡ by
  name_is : h.name.bytes ≡ name
  generation_is : h.generation ≡ generation
  number_is : h.next_number ≡ number
  file : h.next_file < 2 ^ 64

of_header : (by : NamedBy) → IsCodec text_of_header (GoodHeader by) (header_at by)
unfolding header_at
of_header by =
    codec_as text_of_header (GoodHeader by) (
    pair (λ (h : ImageHeader). h.name.bytes) _ _ _ (of_bytes Short 20) (λ c h is. is.1.1.name_is) (λ name.
    pair (λ (h : ImageHeader). h.generation) _ _ _ of_eight (λ g h is. is.1.generation_is) (λ generation.
    pair (λ (h : ImageHeader). h.next_number) _ (IsHeader by name generation) _ of_eight (λ n h is. is.number_is) (λ number.
    made (IsHeader by name generation number) (λ (h : ImageHeader). h.next_file) (λ file. record { name = record { by = by; bytes = name }; generation = generation; next_number = number; next_file = file }) of_eight
    (λ file low. (refl, record { by_is = refl; name_is = refl; generation_is = refl; number_is = refl; file = low }))
    (λ h is. (is.file, rw (sym is.by_is, sym is.name_is, sym is.generation_is, sym is.number_is) refl))))))
    (λ h is. refl)
    (λ h is. record { named = is.1.1.1.by_is; name = is.0; generation = is.1.0; next_number = is.1.1.0; next_file = is.1.1.1.file })
    (λ h is. (is.name, (is.generation, (is.next_number, record { by_is = is.named; name_is = refl; generation_is = refl; number_is = refl; file = is.next_file }))))

-- ---- changes

abbrev pub changes_text : Changes → List ℕ
changes_text c = list_text made_text c.made ++ list_text link_text c.links

pub record GoodChanges (file : ℕ) (c : Changes) : Type 0 where
  pub next_file : c.next_file.0 ≡ file
  pub made : IsGoodList FitsMade made_follows c.made
  pub links : IsGoodList GoodLink link_follows c.links

-- the fields of changes that were read
record IsChanges (file : ℕ) (made : List Made) (c : Changes) : Type 0 where
  file_is : c.next_file.0 ≡ file
  made_is : c.made ≡ made
  links : IsGoodList GoodLink link_follows c.links

of_changes : (file : ℕ) → IsCodec changes_text (GoodChanges file) (changes_at file)
unfolding changes_at
of_changes file =
    codec_as changes_text (GoodChanges file) (
    pair (λ (c : Changes). c.made) _ (IsChanges file) _ (of_list made_at made_text FitsMade made_follows of_made) (λ files c is. is.made_is) (λ files.
    made (IsChanges file files) (λ (c : Changes). c.links) (λ links. record { made = files; links = links; next_file = record { 0 = file } }) (of_list link_at link_text GoodLink link_follows of_link)
    (λ links good. (refl, record { file_is = refl; made_is = refl; links = good }))
    (λ c is. (is.links, rw (sym is.file_is, sym is.made_is) refl))))
    (λ c is. refl)
    (λ c is. record { next_file = is.1.file_is; made = is.0; links = is.1.links })
    (λ c is. (is.made, record { file_is = is.next_file; made_is = refl; links = is.links }))

-- ---- all fields

pub record GoodImage (form : VersionForm) (image : Image) : Type 0 where
  pub named : image.name.by ≡ form.named_by
  pub name : length image.name.bytes ≡ 20
  pub numbers : FitsNumbers image
  pub entries : IsGoodList (GoodEntry form.greatest_count) entry_follows image.entries
  pub made : IsGoodList FitsMade made_follows image.changes.made
  pub links : IsGoodList GoodLink link_follows image.changes.links

abbrev header_of : Image → ImageHeader
header_of image = record { name = image.name; generation = image.generation; next_number = image.next_number; next_file = image.changes.next_file.0 }

-- the fields of an image that were read
record IsBody (h : ImageHeader) (entries : List Kept) (image : Image) : Type 0 where
  header_is : header_of image ≡ h
  entries_are : image.entries ≡ entries
  changes : GoodChanges image.changes.next_file.0 image.changes

-- what stands after the version, in a form
abbrev behind_form : VersionForm → List ℕ → Result (Image × List ℕ) ImageFault
behind_form form bytes = header_at form.named_by bytes >>= λ header. list_at (entry_at form) header.1 >>= λ entries. changes_at header.0.next_file entries.1 >>= λ changes. Ok (image_with header.0 entries.0 changes.0, changes.1)

abbrev body_text : CountWidth → Image → List ℕ
body_text width image = text_of_header (header_of image) ++ (list_text (entry_text width) image.entries ++ changes_text image.changes)

body_made : (h : ImageHeader) (entries : List Kept) (c : Changes) → GoodChanges h.next_file c → IsBody h entries (image_with h entries c)
body_made h entries c good = record {
  header_is = ap (λ (file : ℕ). header_with h file) good.next_file;
  entries_are = refl;
  changes = record { next_file = refl; made = good.made; links = good.links };
} where
  header_with : ImageHeader → ℕ → ImageHeader
  header_with h file = record { name = h.name; generation = h.generation; next_number = h.next_number; next_file = file }

body_back : (h : ImageHeader) (entries : List Kept) (image : Image) → IsBody h entries image → GoodChanges h.next_file image.changes × (image_with h entries image.changes ≡ image)
body_back h entries image is = (
  subst (λ (h : ImageHeader). GoodChanges h.next_file image.changes) is.header_is is.changes,
  ap (λ (h : ImageHeader). image_with h entries image.changes) (sym is.header_is) ∙ ap (λ (es : List Kept). image_with (header_of image) es image.changes) (sym is.entries_are),
)

of_body : (form : VersionForm) → IsForm form → IsCodec (body_text form.count_width) (GoodImage form) (behind_form form)
of_body form keeps =
    codec_as (body_text form.count_width) (GoodImage form) (
    pair header_of _ _ _ (of_header form.named_by) (λ h image is. is.1.header_is) (λ h.
    pair (λ (image : Image). image.entries) _ (IsBody h) _ (of_list (entry_at form) (entry_text form.count_width) (GoodEntry form.greatest_count) entry_follows (of_entry form keeps)) (λ entries image is. is.entries_are) (λ entries.
    made (IsBody h entries) (λ (image : Image). image.changes) (image_with h entries) (of_changes h.next_file)
    (λ c good. (refl, body_made h entries c good)) (body_back h entries))))
    (λ image is. refl)
    (λ image is. record {
      named = is.0.named;
      name = is.0.name;
      numbers = record { generation = is.0.generation; next_number = is.0.next_number; next_file = is.0.next_file };
      entries = is.1.0;
      made = is.1.1.changes.made;
      links = is.1.1.changes.links;
    })
    (λ image is.
    let header : GoodHeader form.named_by (header_of image) = record { named = is.named; name = is.name; generation = is.numbers.generation; next_number = is.numbers.next_number; next_file = is.numbers.next_file } in
    (header, (is.entries, record { header_is = refl; entries_are = refl; changes = record { next_file = refl; made = is.made; links = is.links } })))

-- the text in front of the body
parts_of : (width : CountWidth) (version : ℕ) (image : Image) → image_text width version image ≡ magic ++ (number_bytes w16 version ++ body_text width image)
parts_of width version image =
    let v = number_bytes w16 version in
    let fields = text_of_header (header_of image) in
    let lists = list_text (entry_text width) image.entries ++ changes_text image.changes in
    append_assoc magic (v ++ fields) lists ∙ ap (λ (t : List ℕ). magic ++ t) (append_assoc v fields lists)

-- the fields of an image were read in a version
record FoundFields (bytes : List ℕ) (x : Image × List ℕ) : Type 0 where
  version : ℕ
  form : VersionForm
  known : form_of version ≡ Some form
  found : Found (image_text form.count_width version) (GoodImage form) bytes x

fields_found : (bytes : List ℕ) → AreBytes bytes → Yields Any (FoundFields bytes) (fields_at bytes)
unfolding fields_at
fields_found bytes are =
    then_yields _ _ (magic_found bytes are) (λ behind_magic first.
    then_yields _ _ (form_found behind_magic first.rest_are) (λ form read.
    yields_as _ ((of_body form.0 (row read.0 form.0 read.1.known).keeps).found form.1 read.1.front.rest_are) (λ image body.
    let v = number_bytes w16 read.0 in
    let text = body_text form.0.count_width image.0 in
    let behind = both behind_magic v form.1 text image.1 read.1.front.parts body.parts in
    record {
      version = read.0;
      form = form.0;
      known = read.1.known;
      found = record {
        parts = both bytes magic behind_magic (v ++ text) image.1 first.parts behind ∙ ap (λ (t : List ℕ). t ++ image.1) (sym (parts_of form.0.count_width read.0 image.0));
        good = body.good;
        rest = body.rest;
      };
    })))

fields_again : (version : ℕ) (form : VersionForm) (image : Image) → form_of version ≡ Some form → GoodImage form image → fields_at (image_text form.count_width version image) ≡ Ok (image, [])
unfolding fields_at
fields_again version form image is good =
    let body = body_text form.count_width image in
    let ended : behind_form form body ≡ Ok (image, []) = ap (behind_form form) (sym (append-nil body)) ∙ (of_body form (row version form is).keeps).again image [] good in
    ap fields_at (parts_of form.count_width version image) ∙ rw (magic_again (number_bytes w16 version ++ body), form_again version form body is) ended

-- ---- the relation

each_two : {X : Type 0} (P Q R : X → Type 0) → ((x : X) → P x → Q x → R x) → (xs : List X) → AllByRecursion P xs → AllByRecursion Q xs → AllByRecursion R xs
each_two P Q R f [] ps qs = tt
each_two P Q R f (x ∷ xs) ps qs = (f x ps.0 qs.0, each_two P Q R f xs ps.1 qs.1)

abbrev Named : Kept → Type 0
Named kept = HasName kept.place

abbrev NamedLink : LinkChange → Type 0
NamedLink link = IsNameText link.name

is_text : (image : Image) (version : ℕ) (form : VersionForm) (bytes : List ℕ) → form_of version ≡ Some form → GoodImage form image → are_of_use image.entries ≡ true → bytes ≡ image_text form.count_width version image → IsImageText image version bytes
is_text image version form bytes known good of_use is = record {
  form = form;
  known = known;
  is_fit = record {
    entries_rise = good.entries.rise;
    entries_have_names = all_weaker (GoodEntry form.greatest_count) Named (λ kept g. g.named) image.entries good.entries.good;
    each_of_use = of_use;
    made_rise = good.made.rise;
    links_rise = good.links.rise;
    links_have_names = all_weaker GoodLink NamedLink (λ link g. g.named) image.changes.links good.links.good;
  };
  named = good.named;
  name = good.name;
  numbers = good.numbers;
  members = record {
    entries_few = good.entries.few;
    entries = All-from_recursion (FitsEntry form.greatest_count) image.entries (all_weaker (GoodEntry form.greatest_count) (FitsEntry form.greatest_count) (λ kept g. g.fits) image.entries good.entries.good);
    made_few = good.made.few;
    made = All-from_recursion FitsMade image.changes.made good.made.good;
    links_few = good.links.few;
    links = All-from_recursion FitsLink image.changes.links (all_weaker GoodLink FitsLink (λ link g. g.fits) image.changes.links good.links.good);
  };
  is = is;
}

good_image : (form : VersionForm) (image : Image) → IsFit image → image.name.by ≡ form.named_by → length image.name.bytes ≡ 20 → FitsNumbers image → FitsMembers form.greatest_count image → GoodImage form image
good_image form image fit named name numbers members = record {
  named = named;
  name = name;
  numbers = numbers;
  entries = record {
    few = members.entries_few;
    good = each_two (FitsEntry form.greatest_count) Named (GoodEntry form.greatest_count) (λ kept f n. record { fits = f; named = n }) image.entries (recursion_from_All (FitsEntry form.greatest_count) image.entries members.entries) fit.entries_have_names;
    rise = fit.entries_rise;
  };
  made = record { few = members.made_few; good = recursion_from_All FitsMade image.changes.made members.made; rise = fit.made_rise };
  links = record {
    few = members.links_few;
    good = each_two FitsLink NamedLink GoodLink (λ link f n. record { fits = f; named = n }) image.changes.links (recursion_from_All FitsLink image.changes.links members.links) fit.links_have_names;
    rise = fit.links_rise;
  };
}

-- in which version the bytes are a text of the image
pub record HasVersion (image : Image) (bytes : List ℕ) : Type 0 where
  pub version : ℕ
  pub text : IsImageText image version bytes

image_yields : (bytes : List ℕ) → AreBytes bytes → Yields Any (λ image. HasVersion image bytes) (image_of_bytes bytes)
unfolding image_of_bytes
image_yields bytes are =
    then_yields _ _ (fields_found bytes are) (λ x fields.
    unless_yields (ltb 0 (length x.1)) Rest _ tt (λ over.
    if_yields (are_of_use x.0.entries) ZeroUse _ tt (λ of_use.
    let nothing : x.1 ≡ [] = nil_from_length x.1 (let le = ltb-false _ _ over in omega (arith, le)) in
    let text = image_text fields.form.count_width fields.version x.0 in
    let whole : bytes ≡ text = fields.found.parts ∙ ap (λ (r : List ℕ). text ++ r) nothing ∙ append-nil text in
    Value (record { version = fields.version; text = is_text x.0 fields.version fields.form bytes fields.known fields.found.good of_use whole }))))

pub image_found : (bytes : List ℕ) (image : Image) → AreBytes bytes → image_of_bytes bytes ≡ Ok image → HasVersion image bytes
image_found bytes image are e = yielded (image_of_bytes bytes) image (image_yields bytes are) e

text_again : (version : ℕ) (form : VersionForm) (image : Image) → form_of version ≡ Some form → IsFit image → GoodImage form image → image_of_bytes (image_text form.count_width version image) ≡ Ok image
unfolding image_of_bytes
text_again version form image is fit good = rw (fields_again version form image is good, fit.each_of_use) refl

pub image_again : (image : Image) (version : ℕ) (bytes : List ℕ) → IsImageText image version bytes → image_of_bytes bytes ≡ Ok image
image_again image version bytes is =
    ap image_of_bytes is.is ∙ text_again version is.form image is.known is.is_fit (good_image is.form image is.is_fit is.named is.name is.numbers is.members)
