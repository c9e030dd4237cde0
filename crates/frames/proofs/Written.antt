-- The length of versions, and what is put of a frame.
use Rattle.std.proofs.Common.{◌≡◌, ℕ, ◌*◌, List, [], ◌∷◌, length, refl, ap, ◌∙◌, length-append, arith}
use Rattle.std.proofs.lemmas.List.Concat.{flat_map-cons}
use Rattle.std.specs.List.{flat_map}
use Rattle.byte_codec.proofs.WriteLemmas.{len_two, field_lengths, fields_written}
use Rattle.frames.specs.FrameText.{version_text}

-- each version has two bytes
pub len_versions : (versions : List ℕ) → length (flat_map version_text versions) ≡ 2 * length versions
len_versions [] = refl
len_versions (version ∷ versions) =
    ap length (flat_map-cons version_text version versions) ∙ omega (arith, length-append (version_text version) (flat_map version_text versions), len_two version, len_versions versions)

pub ruleset lengths = (field_lengths, len_versions)

pub ruleset written = (fields_written, len_versions)
