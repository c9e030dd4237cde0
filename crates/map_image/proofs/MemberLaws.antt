-- Entries, made files and changed names: what is read has these bytes as its text, and each text is read.
use Rattle.std.proofs.Common.{◌≡◌, ℕ, ◌%◌, ◌^◌, ◌<◌, ◌≤◌, Bool, true, false, ltb, List, [], ◌++◌, Option, Some, None, Ok, refl, sym, ap, arith}
use Rattle.std.specs.Int.{w16, w64}
use Rattle.std.proofs.lemmas.Bool.{ltb-false}
use Rattle.std.proofs.lemmas.List.{append-nil}
use Rattle.byte_codec.specs.Field.{byte_text, number_bytes}
use Rattle.byte_codec.specs.Reading.{◌>>=◌}
use Rattle.byte_codec.proofs.PairLaws.{IsCodec, codec_as, made, pair, read_as, seen, tested}
use Rattle.byte_codec.proofs.StepLemmas.{bind_assoc}
use Rattle.byte_codec.proofs.YieldLemmas.{Any, Value, if_yields, unless_yields}
use Rattle.eden_base.specs.Name.{IsNameText}
use Rattle.eden_base.specs.declared.attr.MadeKind.{MadeKind}
use Rattle.eden_base.specs.declared.attr.MadeKind.TheVariants.{Dir, File as RegularFile}
use Rattle.eden_base.specs.declared.attr.Perm.{Perm}
use Rattle.eden_base.specs.declared.number.FileId.{FileId}
use Rattle.eden_base.specs.declared.place.Place.{Place}
use Rattle.eden_base.specs.declared.place.Place.TheVariants.{Linked, Unlinked}
use Rattle.checkout.specs.declared.changes.Made.{Made}
use Rattle.manifest.specs.declared.link_change.LinkChange.{LinkChange}
use Rattle.entry_table.specs.declared.kept.Kept.{Kept}
use Rattle.entry_table.specs.EntryPlaces.{HasName}
use Rattle.map_image.specs.declared.fault.ImageFault.TheVariants.{NotRising, BadMark}
use Rattle.map_image.specs.Fit.{is_next_number, is_next_file, is_next_place, entry_follows, made_follows, link_follows}
use Rattle.map_image.specs.ImageText.{name_text, place_mark, place_text, entry_text, kind_mark, made_text, target_text, link_text, FitsPlace, FitsEntry, FitsMade, FitsTarget, FitsLink}
use Rattle.map_image.specs.ImageReading.{counted_at, place_at, rising_at, entry_at, file_at, kind_of_mark, perm_at, made_at, rising_place, target_at, link_at}
use Rattle.map_image.proofs.FieldLaws.{bit, bit_text, named_again, named_yields, of_count, of_counted, of_eight, of_mark, of_name, of_two, short_name}
use Rattle.map_image.specs.Versions.{IsForm, width_of}
use Rattle.map_image.specs.declared.version.VersionForm.{VersionForm}
use Rattle.map_image.proofs.Perms.{perm_seen, see_perm}

-- a good member after the last one
pub record Next {X : Type 0} (Good : X → Type 0) (follows : Option X → X → Bool) (last : Option X) (x : X) : Type 0 where
  pub good : Good x
  pub rises : follows last x ≡ true

-- ---- places

pub record GoodPlace (place : Place) : Type 0 where
  pub fits : FitsPlace place
  pub named : HasName place

abbrev is_unlinked : Place → Bool
is_unlinked (Linked parent name) = false
is_unlinked (Unlinked file) = true

mark_is : (place : Place) → bit (is_unlinked place) ≡ place_mark place
mark_is (Linked parent name) = refl
mark_is (Unlinked file) = refl

-- a good place of a mark
record IsPlace (mark : Bool) (place : Place) : Type 0 where
  marked : is_unlinked place ≡ mark
  good : GoodPlace place

abbrev linked : ℕ → List ℕ → Place
linked parent name = Linked (record { 0 = parent }) name

abbrev unlinked : ℕ → Place
unlinked file = Unlinked (record { 0 = file })

-- the fields of a place
abbrev number_of : Place → ℕ
number_of (Linked parent name) = parent.0
number_of (Unlinked file) = file.0

abbrev name_of : Place → List ℕ
name_of (Linked parent name) = name
name_of (Unlinked file) = []

unlinked_text : (place : Place) → IsPlace true place → place_text place ≡ number_bytes w64 (number_of place)
unlinked_text (Linked parent name) is = let no = is.marked in absurd cc
unlinked_text (Unlinked file) is = refl

unlinked_again : (place : Place) → IsPlace true place → (number_of place < 2 ^ 64) × (unlinked (number_of place) ≡ place)
unlinked_again (Linked parent name) is = let no = is.marked in absurd cc
unlinked_again (Unlinked file) is = (is.good.fits, refl)

-- a place of an entry that has a name, with the directory known
record IsUnder (parent : ℕ) (place : Place) : Type 0 where
  number : number_of place ≡ parent
  marked : is_unlinked place ≡ false
  named : HasName place

under_again : (parent : ℕ) (place : Place) → IsUnder parent place → IsNameText (name_of place) × (linked parent (name_of place) ≡ place)
under_again parent (Linked dir name) is = (is.named, ap (λ (n : ℕ). linked n name) (sym is.number))
under_again parent (Unlinked file) is = let no = is.marked in absurd cc

linked_text : (place : Place) → is_unlinked place ≡ false → place_text place ≡ number_bytes w64 (number_of place) ++ name_text (name_of place)
linked_text (Linked parent name) is = refl
linked_text (Unlinked file) is = absurd cc

linked_good : (place : Place) → number_of place < 2 ^ 64 → IsUnder (number_of place) place → IsPlace false place
linked_good (Linked parent name) low is = record { marked = refl; good = record { fits = low; named = is.named } }
linked_good (Unlinked file) low is = let no = is.marked in absurd cc

linked_fits : (place : Place) → IsPlace false place → (number_of place < 2 ^ 64) × IsUnder (number_of place) place
linked_fits (Linked parent name) is = (is.good.fits, record { number = refl; marked = refl; named = is.good.named })
linked_fits (Unlinked file) is = let no = is.marked in absurd cc

of_place : (mark : Bool) → IsCodec place_text (IsPlace mark) (place_at mark)
unfolding place_at
of_place true =
    codec_as place_text (IsPlace true) (made (IsPlace true) number_of unlinked of_eight (λ n low. (refl, record { marked = refl; good = record { fits = low; named = tt } })) unlinked_again)
    unlinked_text (λ place is. is) (λ place is. is)
of_place false =
    codec_as place_text (IsPlace false) (
    pair number_of (λ place. name_text (name_of place)) IsUnder _ of_eight (λ n place is. is.number) (λ parent.
    made (IsUnder parent) name_of (linked parent) of_name (λ name is. (refl, record { number = refl; marked = refl; named = is })) (under_again parent)))
    (λ place is. linked_text place is.1.marked) (λ place is. linked_good place is.0 is.1) linked_fits

-- ---- entries

pub record GoodEntry (greatest : ℕ) (kept : Kept) : Type 0 where
  pub fits : FitsEntry greatest kept
  pub named : HasName kept.place

-- the fields of an entry that were read
record IsEntry (number : ℕ) (mark : Bool) (count : ℕ) (kept : Kept) : Type 0 where
  number_is : kept.number.0 ≡ number
  mark_is : is_unlinked kept.place ≡ mark
  count_is : kept.count ≡ count
  place : GoodPlace kept.place

pub of_entry : (form : VersionForm) → IsForm form → (last : Option Kept) → IsCodec (entry_text form.count_width) (Next (GoodEntry form.greatest_count) entry_follows last) (entry_at form last)
unfolding entry_at rising_at
of_entry form keeps last =
    codec_as (entry_text form.count_width) (Next (GoodEntry form.greatest_count) entry_follows last) (
    pair (λ (kept : Kept). kept.number.0) _ _ _ (tested (is_next_number last) NotRising of_eight) (λ n kept is. is.1.1.number_is) (λ number.
    pair (λ (kept : Kept). is_unlinked kept.place) _ _ _ of_mark (λ m kept is. is.1.mark_is) (λ mark.
    pair (λ (kept : Kept). kept.count) _ (IsEntry number mark) _ (of_count form keeps) (λ c kept is. is.count_is) (λ count.
    made (IsEntry number mark count) (λ (kept : Kept). kept.place) (λ place. record { number = record { 0 = number }; place = place; count = count }) (of_place mark)
    (λ place is. (refl, record { number_is = refl; mark_is = is.marked; count_is = refl; place = is.good }))
    (λ kept is. (record { marked = is.mark_is; good = is.place }, rw (sym is.number_is, sym is.count_is) refl))))))
    (λ kept is. ap (λ (b : ℕ). number_bytes w64 kept.number.0 ++ (byte_text b ++ (number_bytes (width_of form.count_width) kept.count ++ place_text kept.place))) (sym (mark_is kept.place)))
    (λ kept is. record {
      good = record { fits = record { number = is.0.0; count = is.1.1.0; place = is.1.1.1.place.fits }; named = is.1.1.1.place.named };
      rises = is.0.1;
    })
    (λ kept is.
    let place : GoodPlace kept.place = record { fits = is.good.fits.place; named = is.good.named } in
    ((is.good.fits.number, is.rises), (tt, (is.good.fits.count, record { number_is = refl; mark_is = refl; count_is = refl; place = place }))))

-- ---- made files

abbrev perm_text : Perm → List ℕ
perm_text perm = number_bytes w16 perm.bits

of_perm : IsCodec perm_text Any perm_at
unfolding perm_at
of_perm = seen Any (λ (perm : Perm). perm.bits) see_perm of_two
    (λ bits low. unless_yields (ltb 4095 bits.0) BadMark _ tt (λ few.
    let at_most : bits.0 ≤ 4095 = ltb-false _ _ few in
    let same : bits.0 % 4096 ≡ bits.0 = omega (arith, at_most) in
    Value (same, refl, tt)))
    (λ perm rest any. (omega (arith, perm.in_range), perm_seen perm.bits rest perm refl))

abbrev is_dir : MadeKind → Bool
is_dir Dir = true
is_dir RegularFile = false

dir_is : (kind : MadeKind) → (kind_mark kind ≡ bit (is_dir kind)) × (kind_of_mark (is_dir kind) ≡ kind)
dir_is Dir = (refl, refl)
dir_is RegularFile = (refl, refl)

kind_is : (b : Bool) → is_dir (kind_of_mark b) ≡ b
kind_is true = refl
kind_is false = refl

-- the fields of a made file that were read
record IsMade (file : ℕ) (dir : Bool) (made : Made) : Type 0 where
  file_is : made.file.0 ≡ file
  dir_is : is_dir made.kind ≡ dir

pub of_made : (last : Option Made) → IsCodec made_text (Next FitsMade made_follows last) (made_at last)
unfolding made_at file_at
of_made last =
    codec_as made_text (Next FitsMade made_follows last) (
    pair (λ (m : Made). m.file.0) _ _ _ (tested (is_next_file last) NotRising of_eight) (λ n m is. is.1.file_is) (λ file.
    pair (λ (m : Made). is_dir m.kind) _ (IsMade file) _ of_mark (λ d m is. is.dir_is) (λ dir.
    made (IsMade file dir) (λ (m : Made). m.perm) (λ perm. record { file = record { 0 = file }; kind = kind_of_mark dir; perm = perm }) of_perm
    (λ perm any. (refl, record { file_is = refl; dir_is = kind_is dir }))
    (λ m is. (tt, rw (sym is.file_is, sym is.dir_is, (dir_is m.kind).1) refl)))))
    (λ m is. ap (λ (b : ℕ). number_bytes w64 m.file.0 ++ (byte_text b ++ perm_text m.perm)) (dir_is m.kind).0)
    (λ m is. record { good = is.0.0; rises = is.0.1 })
    (λ m is. ((is.good, is.rises), (tt, record { file_is = refl; dir_is = refl })))

-- ---- changed names

abbrev is_there : Option FileId → Bool
is_there None = false
is_there (Some file) = true

-- a fitting file of a mark
record IsTarget (there : Bool) (target : Option FileId) : Type 0 where
  marked : is_there target ≡ there
  fits : FitsTarget target

abbrev some_file : ℕ → Option FileId
some_file file = Some (record { 0 = file })

abbrev file_of : Option FileId → ℕ
file_of None = 0
file_of (Some file) = file.0

-- what stands after the mark
abbrev behind_mark : Option FileId → List ℕ
behind_mark None = []
behind_mark (Some file) = number_bytes w64 file.0

target_parts : (target : Option FileId) → target_text target ≡ bit_text (is_there target) ++ behind_mark target
target_parts None = sym (append-nil (byte_text 0))
target_parts (Some file) = refl

there_text : (target : Option FileId) → IsTarget true target → behind_mark target ≡ number_bytes w64 (file_of target)
there_text None is = let no = is.marked in absurd cc
there_text (Some file) is = refl

there_again : (target : Option FileId) → IsTarget true target → (file_of target < 2 ^ 64) × (some_file (file_of target) ≡ target)
there_again None is = let no = is.marked in absurd cc
there_again (Some file) is = (is.fits, refl)

none_again : (target : Option FileId) (rest : List ℕ) → IsTarget false target → target_at false (behind_mark target ++ rest) ≡ Ok (target, rest)
unfolding target_at
none_again None rest is = refl
none_again (Some file) rest is = let no = is.marked in absurd cc

of_target : (there : Bool) → IsCodec behind_mark (IsTarget there) (target_at there)
unfolding target_at
of_target true =
    codec_as behind_mark (IsTarget true) (made (IsTarget true) file_of some_file of_eight (λ n low. (refl, record { marked = refl; fits = low })) there_again) there_text (λ target is. is) (λ target is. is)
of_target false = record {
  again = none_again;
  found = λ bytes are. Value (record { parts = refl; good = record { marked = refl; fits = tt }; rest = are });
}

-- a name that rises above the last one
record IsPlaced (last : Option LinkChange) (dir : ℕ) (name : List ℕ) : Type 0 where
  rises : is_next_place last dir name ≡ true
  named : IsNameText name

of_placed : (last : Option LinkChange) (dir : ℕ) → IsCodec name_text (IsPlaced last dir) (λ bytes. counted_at bytes >>= rising_place last dir)
unfolding rising_place
of_placed last dir = seen (IsPlaced last dir) (λ name. name) (rising_place last dir) of_counted
    (λ field short. if_yields (is_next_place last dir field.0) NotRising _ tt (λ rises. named_yields (IsPlaced last dir) field (λ is. record { rises = rises; named = is })))
    (λ name rest is. (short_name name is.named, rw is.rises (named_again name rest is.named)))

pub record GoodLink (link : LinkChange) : Type 0 where
  pub fits : FitsLink link
  pub named : IsNameText link.name

-- the fields of a changed name that were read
record IsLink (dir : ℕ) (name : List ℕ) (there : Bool) (link : LinkChange) : Type 0 where
  dir_is : link.dir.0 ≡ dir
  name_is : link.name ≡ name
  there_is : is_there link.target ≡ there
  fits : FitsTarget link.target

pub of_link : (last : Option LinkChange) → IsCodec link_text (Next GoodLink link_follows last) (link_at last)
unfolding link_at
of_link last =
    codec_as link_text (Next GoodLink link_follows last) (
    pair (λ (link : LinkChange). link.dir.0) _ _ _ of_eight (λ d link is. is.1.1.dir_is) (λ dir.
    read_as (
    pair (λ (link : LinkChange). link.name) _ _ _ (of_placed last dir) (λ name link is. is.1.name_is) (λ name.
    pair (λ (link : LinkChange). is_there link.target) _ (IsLink dir name) _ of_mark (λ b link is. is.there_is) (λ there.
    made (IsLink dir name there) (λ (link : LinkChange). link.target) (λ target. record { dir = record { 0 = dir }; name = name; target = target }) (of_target there)
    (λ target is. (refl, record { dir_is = refl; name_is = refl; there_is = is.marked; fits = is.fits }))
    (λ link is. (record { marked = is.there_is; fits = is.fits }, rw (sym is.dir_is, sym is.name_is) refl)))))
    (λ bytes. bind_assoc (counted_at bytes) (rising_place last dir) _)))
    (λ link is. ap (λ (t : List ℕ). number_bytes w64 link.dir.0 ++ (name_text link.name ++ t)) (target_parts link.target))
    (λ link is. record {
      good = record { fits = record { dir = is.0; target = is.1.1.1.fits }; named = is.1.0.named };
      rises = is.1.0.rises;
    })
    (λ link is. (is.good.fits.dir, (record { rises = is.rises; named = is.good.named }, (tt, record { dir_is = refl; name_is = refl; there_is = refl; fits = is.good.fits.target }))))
