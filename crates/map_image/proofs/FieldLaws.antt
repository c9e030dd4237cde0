-- Marks and names: what is read has these bytes as its text, and each text is read.
use Rattle.std.proofs.Common.{◌≡◌, ℕ, ◌^◌, ◌<◌, ◌≤◌, Bool, true, false, cond, ltb, eqb, nat_le, List, length, Option, Some, None, Result, Ok, Err, refl, arith}
use Rattle.std.specs.Prelude.{is_some}
use Rattle.std.specs.Int.{w16, w32, w64}
use Rattle.std.proofs.lemmas.Bool.{ltb-false}
use Rattle.std.proofs.lemmas.Bool.Decides.{nat_tests}
use Rattle.byte_codec.specs.Field.{byte_text, number_bytes}
use Rattle.byte_codec.specs.Reading.{bytes_at, number_at}
use Rattle.byte_codec.proofs.FieldLaws.{IsBelow, two, four, eight, two_back, four_back, eight_back}
use Rattle.byte_codec.proofs.PairLaws.{HasLen, IsCodec, codec_as, of_byte, of_bytes, of_number, pair, seen, tested}
use Rattle.byte_codec.proofs.YieldLemmas.{Any, Yields, Value, unless_yields}
use Rattle.eden_base.specs.declared.name.NameFault.{NameFault}
use Rattle.eden_base.specs.Name.{IsNameText, name_fault}
use Rattle.map_image.specs.declared.fault.ImageFault.{ImageFault}
use Rattle.map_image.specs.declared.fault.ImageFault.TheVariants.{Short, BadMark, BadName}
use Rattle.map_image.specs.ImageText.{name_text}
use Rattle.map_image.specs.ImageReading.{mark_at, count_at, counted_at, named, name_at}
use Rattle.map_image.specs.Versions.{IsForm, limit_of, width_of}
use Rattle.map_image.specs.declared.version.CountWidth.{CountWidth}
use Rattle.map_image.specs.declared.version.CountWidth.TheVariants.{Four, Eight}
use Rattle.map_image.specs.declared.version.VersionForm.{VersionForm}
use Rattle.map_image.proofs.Lengths.{name_is_short}

-- ---- numbers

pub of_two : IsCodec (number_bytes w16) (IsBelow (2 ^ 16)) (number_at Short w16)
of_two = of_number Short w16 (2 ^ 16) two two_back

pub of_four : IsCodec (number_bytes w32) (IsBelow (2 ^ 32)) (number_at Short w32)
of_four = of_number Short w32 (2 ^ 32) four four_back

pub of_eight : IsCodec (number_bytes w64) (IsBelow (2 ^ 64)) (number_at Short w64)
of_eight = of_number Short w64 (2 ^ 64) eight eight_back

-- ---- counts

of_width : (width : CountWidth) → IsCodec (number_bytes (width_of width)) (IsBelow (limit_of width)) (number_at Short (width_of width))
of_width Four = of_four
of_width Eight = of_eight

abbrev pub IsAtMost : ℕ → ℕ → Type 0
IsAtMost greatest n = n ≤ greatest

at_most : (n greatest : ℕ) → nat_le n greatest ≡ true → n ≤ greatest
at_most n greatest e = grind (arith, nat_tests)

is_at_most : (n greatest : ℕ) → n ≤ greatest → nat_le n greatest ≡ true
is_at_most n greatest le = grind (arith, nat_tests)

pub of_count : (form : VersionForm) → IsForm form → IsCodec (number_bytes (width_of form.count_width)) (IsAtMost form.greatest_count) (count_at form)
unfolding count_at
of_count form is =
    codec_as (number_bytes (width_of form.count_width)) (IsAtMost form.greatest_count) (tested (λ (n : ℕ). nat_le n form.greatest_count) BadMark (of_width form.count_width))
    (λ n fits. refl)
    (λ n fits. at_most n form.greatest_count fits.1)
    (λ n le. let room = is.count_has_room in (omega (arith, le, room), is_at_most n form.greatest_count le))

-- ---- marks

-- a mark of two meanings
abbrev pub bit : Bool → ℕ
bit true = 1
bit false = 0

abbrev pub bit_text : Bool → List ℕ
bit_text b = byte_text (bit b)

bit_of : (n : ℕ) → n ≤ 1 → bit (eqb n 1) ≡ n
bit_of n le = grind (arith, nat_tests)

abbrev see_mark : ℕ × List ℕ → Result (Bool × List ℕ) ImageFault
see_mark mark = cond (ltb 1 mark.0) (Err BadMark) (Ok (eqb mark.0 1, mark.1))

mark_back : (b : Bool) (rest : List ℕ) → (bit b < 256) × (see_mark (bit b, rest) ≡ Ok (b, rest))
mark_back true rest = (omega arith, refl)
mark_back false rest = (omega arith, refl)

pub of_mark : IsCodec bit_text Any mark_at
unfolding mark_at
of_mark = seen Any bit see_mark (of_byte Short)
    (λ mark low. unless_yields (ltb 1 mark.0) BadMark _ tt (λ few. Value (bit_of mark.0 (ltb-false _ _ few), refl, tt)))
    (λ b rest any. mark_back b rest)

-- ---- names

abbrev pub IsShort : List ℕ → Type 0
IsShort field = length field < 256

pub of_counted : IsCodec name_text IsShort counted_at
unfolding counted_at
of_counted = codec_as name_text IsShort (pair length (λ field. field) HasLen (bytes_at Short) (of_byte Short) (λ n field is. is) (of_bytes Short))
    (λ field fits. refl) (λ field fits. fits.0) (λ field is. (is, refl))

none_is : (fault : Option NameFault) → is_some fault ≡ false → fault ≡ None
none_is None e = refl
none_is (Some fault) e = absurd cc

-- a field that is a name is read as it stands
pub named_yields : (Good : List ℕ → Type 0) (field : List ℕ × List ℕ) → (IsNameText field.0 → Good field.0) → Yields Any (λ name. (name.0 ≡ field.0) × (name.1 ≡ field.1) × Good name.0) (named field)
named_yields Good field good = unless_yields (is_some (name_fault field.0)) BadName _ tt (λ none. Value (refl, refl, good (none_is (name_fault field.0) none)))

pub named_again : (field rest : List ℕ) → IsNameText field → named (field, rest) ≡ Ok (field, rest)
named_again field rest is = rw is refl

pub short_name : (name : List ℕ) → IsNameText name → IsShort name
short_name name is = omega (arith, name_is_short name is)

pub of_name : IsCodec name_text IsNameText name_at
unfolding name_at
of_name = seen IsNameText (λ name. name) named of_counted
    (λ field short. named_yields IsNameText field (λ is. is))
    (λ name rest is. (short_name name is, named_again name rest is))
