-- How long the parts of a text are.
use Rattle.std.proofs.Common.{◌≡◌, ℕ, ◌*◌, ◌≤◌, List, [], ◌∷◌, ◌++◌, length, refl, ap, ◌∙◌, length-append, arith}
use Rattle.std.specs.Int.{w16, w64}
use Rattle.std.specs.List.{flat_map}
use Rattle.std.proofs.lemmas.Bool.Decides.{nat_tests}
use Rattle.std.proofs.lemmas.List.Concat.{flat_map-cons}
use Rattle.byte_codec.specs.Field.{byte_text, number_bytes}
use Rattle.byte_codec.proofs.WriteLemmas.{field_lengths, len_one, len_two, len_eight}
use Rattle.checkout.specs.declared.changes.Made.{Made}
use Rattle.eden_base.specs.Name.{IsNameText}
use Rattle.map_image.specs.ImageText.{magic, kind_mark, made_text}

pub length-magic : length magic ≡ 4
unfolding magic
length-magic = refl

-- a name has 255 bytes at most
pub name_is_short : (name : List ℕ) → IsNameText name → length name ≤ 255
name_is_short name is = grind (arith, nat_tests)

pub ruleset lengths = (field_lengths, length-magic)

-- each made file has eleven bytes
pub made_files_len : (files : List Made) → length (flat_map made_text files) ≡ 11 * length files
made_files_len [] = refl
made_files_len (made ∷ files) =
    ap length (flat_map-cons made_text made files) ∙ omega (arith, length-append (made_text made) (flat_map made_text files), length-append (number_bytes w64 made.file.0) (byte_text (kind_mark made.kind) ++ number_bytes w16 made.perm.bits), length-append (byte_text (kind_mark made.kind)) (number_bytes w16 made.perm.bits), len_eight made.file.0, len_one (kind_mark made.kind), len_two made.perm.bits, made_files_len files)
