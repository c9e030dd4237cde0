-- A body that is read is the one that was written: a number, and versions.
use Rattle.std.proofs.Common.{◌≡◌, ℕ, suc, ◌*◌, ◌^◌, ◌<◌, ◌≤◌, List, [], ◌∷◌, ◌++◌, length, take, drop, Ok, refl, ap, ◌∙◌, arith}
use Rattle.std.proofs.lemmas.Bool.{le-leb, eq-eqb}
use Rattle.std.proofs.lemmas.List.{take_at, drop_at}
use Rattle.std.proofs.lemmas.List.Concat.{flat_map-cons}
use Rattle.std.specs.Int.{Width, byte_len}
use Rattle.std.specs.List.{All, flat_map}
use Rattle.byte_codec.specs.Field.{number_bytes}
use Rattle.byte_codec.proofs.FieldLaws.{IsWidth, two}
use Rattle.byte_codec.proofs.WriteLemmas.{len_two}
use Rattle.frames.specs.FrameText.{FitsVersion, version_text}
use Rattle.frames.specs.Reading.{alone, numbers_at, versions_of}
use Rattle.frames.proofs.Written.{len_versions}

-- a number that stands alone
pub alone_again : {width : Width} {limit : ℕ} → IsWidth width limit → (n : ℕ) → n < limit → alone width (number_bytes width n) ≡ Ok n
unfolding alone
alone_again {width = width} is n lt = rw (is.len n, is.again n lt, eq-eqb (byte_len width) (byte_len width) refl) refl

-- versions, one after the other
pub numbers_again : (versions : List ℕ) → All FitsVersion versions → numbers_at (length versions) (flat_map version_text versions) ≡ versions
numbers_again [] fit = refl
numbers_again (version ∷ versions) fit =
    let text = version_text version in
    let rest = flat_map version_text versions in
    let parts : flat_map version_text (version ∷ versions) ≡ text ++ rest = flat_map-cons version_text version versions in
    let first : take 2 (flat_map version_text (version ∷ versions)) ≡ text = ap (take 2) parts ∙ take_at text rest 2 (len_two version) in
    let others : drop 2 (flat_map version_text (version ∷ versions)) ≡ rest = ap (drop 2) parts ∙ drop_at text rest 2 (len_two version) in
    let low : version < 2 ^ 16 = fit 0 0 (omega arith) in
    let tail = numbers_again versions (λ k d lt. fit (suc k) d (omega (arith, lt))) in
    rw (first, others, two.again version low, tail) refl

-- an offer's versions after their count
pub versions_again : (versions : List ℕ) → length versions ≤ 8 → All FitsVersion versions → versions_of (length versions ∷ flat_map version_text versions) ≡ Ok versions
unfolding versions_of
versions_again versions few fit =
    rw (len_versions versions, le-leb (length versions) 8 few, eq-eqb (2 * length versions) (2 * length versions) refl, numbers_again versions fit) refl
