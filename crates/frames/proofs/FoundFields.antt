-- A body that was read is the text of what was read: a number, nothing, and versions.
use Rattle.std.proofs.Common.{◌≡◌, ℕ, zero, suc, ◌*◌, ◌<◌, ◌≤◌, leb, eqb, List, [], ◌∷◌, ◌++◌, length, take, drop, refl, ap, ◌∙◌, length-take, arith}
use Rattle.std.specs.Int.{Width, w16, byte_len}
use Rattle.std.specs.Prelude.{◌&&◌}
use Rattle.std.specs.List.{All, flat_map}
use Rattle.std.proofs.lemmas.Bool.{and_parts, eqb-true, leb-true}
use Rattle.std.proofs.lemmas.List.{take-append-drop, length-drop}
use Rattle.std.proofs.lemmas.List.Concat.{flat_map-cons}
use Rattle.byte_codec.specs.Field.{AreBytes, number_bytes, number_in}
use Rattle.byte_codec.proofs.ByteLemmas.{AreBytes-drop, AreBytes-take}
use Rattle.byte_codec.proofs.FieldLaws.{IsSpelled, two_back}
use Rattle.byte_codec.proofs.YieldLemmas.{Only, Yields, Value, Fault, if_yields}
use Rattle.frames.specs.declared.fault.FrameFault.TheVariants.{BadBody}
use Rattle.frames.specs.FrameText.{FitsVersion, version_text}
use Rattle.frames.specs.Reading.{alone, nothing, numbers_at, versions_of}

-- the body is this number's
pub record IsNumber (width : Width) (limit : ℕ) (body : List ℕ) (n : ℕ) : Type 0 where
  pub text : number_bytes width n ≡ body
  pub fits : n < limit

pub alone_yields : {width : Width} {limit : ℕ} → IsSpelled width limit → (body : List ℕ) → AreBytes body → Yields (Only BadBody) (IsNumber width limit body) (alone width body)
unfolding alone
alone_yields {width = width} is body are =
    if_yields (eqb (length body) (byte_len width)) BadBody _ refl (λ b. Value (record { text = is.back body (eqb-true _ _ b) are; fits = is.below body are }))

-- the body is empty
abbrev pub IsEmpty : List ℕ → Unit {0} → Type 0
IsEmpty body u = [] ≡ body

pub nothing_yields : (body : List ℕ) → Yields (Only BadBody) (IsEmpty body) (nothing body)
unfolding nothing
nothing_yields [] = Value refl
nothing_yields (byte ∷ body) = Fault refl

-- ---- versions

pub record AreVersions (rest versions : List ℕ) (count : ℕ) : Type 0 where
  pub len : length versions ≡ count
  pub text : flat_map version_text versions ≡ rest
  pub fit : All FitsVersion versions

all_more : (version : ℕ) (versions : List ℕ) → FitsVersion version → All FitsVersion versions → All FitsVersion (version ∷ versions)
all_more version versions first others zero d lt = first
all_more version versions first others (suc k) d lt = others k d (omega (arith, lt))

numbers_found : (count : ℕ) (rest : List ℕ) → length rest ≡ 2 * count → AreBytes rest → AreVersions rest (numbers_at count rest) count
numbers_found zero [] len are = record { len = refl; text = refl; fit = λ k d lt. absurd (omega (arith, lt)) }
numbers_found zero (byte ∷ rest) len are = absurd (omega (arith, len))
numbers_found (suc count) rest len are =
    let field = take 2 rest in
    let behind = drop 2 rest in
    let version = number_in w16 field in
    let others = numbers_found count behind (omega (arith, len, length-drop 2 rest)) (AreBytes-drop 2 rest are) in
    let same : number_bytes w16 version ≡ field = two_back.back field (omega (arith, len, length-take 2 rest)) (AreBytes-take 2 rest are) in
    record {
      len = omega (arith, others.len);
      text = flat_map-cons version_text version (numbers_at count behind) ∙ ap (λ (t : List ℕ). t ++ flat_map version_text (numbers_at count behind)) same ∙ ap (λ (t : List ℕ). field ++ t) others.text ∙ take-append-drop 2 rest;
      fit = all_more version (numbers_at count behind) (two_back.below field (AreBytes-take 2 rest are)) others.fit;
    }

pub record IsOffer (body versions : List ℕ) : Type 0 where
  pub text : length versions ∷ flat_map version_text versions ≡ body
  pub few : length versions ≤ 8
  pub fit : All FitsVersion versions

pub versions_yield : (body : List ℕ) → AreBytes body → Yields (Only BadBody) (IsOffer body) (versions_of body)
unfolding versions_of
versions_yield [] are = Fault refl
versions_yield (count ∷ rest) are =
    if_yields (leb count 8 && eqb (length rest) (2 * count)) BadBody _ refl (λ b.
    let tests = and_parts (leb count 8) (eqb (length rest) (2 * count)) b in
    let found = numbers_found count rest (eqb-true (length rest) (2 * count) tests.1) (λ i. are (suc i)) in
    Value (record {
      text = ap (λ (n : ℕ). n ∷ flat_map version_text (numbers_at count rest)) found.len ∙ ap (λ (t : List ℕ). count ∷ t) found.text;
      few = omega (arith, found.len, leb-true count 8 tests.0);
      fit = found.fit;
    }))
