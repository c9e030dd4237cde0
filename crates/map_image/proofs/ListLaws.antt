-- Lists of members: what is read has these bytes as its text, and each text is read.
use Rattle.std.proofs.Common.{◌≡◌, ℕ, zero, suc, ◌<◌, Bool, true, List, [], ◌∷◌, ◌++◌, length, Option, Some, None, Ok, refl, sym, ap, ◌∙◌, append_assoc}
use Rattle.std.specs.List.{flat_map, AllByRecursion}
use Rattle.std.proofs.lemmas.Bool.{and_from, and_parts}
use Rattle.std.proofs.lemmas.List.Concat.{flat_map-cons}
use Rattle.byte_codec.specs.Field.{AreBytes}
use Rattle.byte_codec.proofs.ByteLemmas.{both}
use Rattle.byte_codec.proofs.FieldLaws.{Found}
use Rattle.byte_codec.proofs.PairLaws.{IsCodec, codec_as, pair}
use Rattle.byte_codec.proofs.YieldLemmas.{Any, Yields, Value, then_yields}
use Rattle.map_image.specs.Fit.{rises}
use Rattle.map_image.specs.ImageText.{list_text}
use Rattle.map_image.specs.ImageReading.{members_at, list_at}
use Rattle.map_image.specs.Versions.{length_limit}
use Rattle.map_image.proofs.FieldLaws.{of_four}
use Rattle.map_image.specs.Feeding.{Member}
use Rattle.map_image.proofs.MemberLaws.{Next}

-- members are read and written, each after the last one
abbrev pub AreCodecs : {X : Type 0} → Member X → (X → List ℕ) → (X → Type 0) → (Option X → X → Bool) → Type 0
AreCodecs {X} member text Good follows = (last : Option X) → IsCodec text (Next Good follows last) (member last)

-- a count of good members that rise
pub record AreMembers {X : Type 0} (Good : X → Type 0) (follows : Option X → X → Bool) (last : Option X) (n : ℕ) (xs : List X) : Type 0 where
  pub len : length xs ≡ n
  pub good : AllByRecursion Good xs
  pub rise : rises follows last xs ≡ true

members_found : {X : Type 0} (member : Member X) (text : X → List ℕ) (Good : X → Type 0) (follows : Option X → X → Bool) → AreCodecs member text Good follows → (n : ℕ) (last : Option X) (bytes : List ℕ) → AreBytes bytes
    → Yields Any (Found (flat_map text) (AreMembers Good follows last n) bytes) (members_at member last n bytes)
unfolding members_at
members_found member text Good follows codecs zero last bytes are = Value (record { parts = refl; good = record { len = refl; good = tt; rise = refl }; rest = are })
members_found member text Good follows codecs (suc n) last bytes are =
    then_yields _ _ ((codecs last).found bytes are) (λ x first.
    then_yields _ _ (members_found member text Good follows codecs n (Some x.0) x.1 first.rest) (λ xs others.
    let parts : bytes ≡ (text x.0 ++ flat_map text xs.0) ++ xs.1 = both bytes (text x.0) x.1 (flat_map text xs.0) xs.1 first.parts others.parts in
    Value (record {
      parts = parts ∙ ap (λ (t : List ℕ). t ++ xs.1) (sym (flat_map-cons text x.0 xs.0));
      good = record {
        len = ap suc others.good.len;
        good = (first.good.good, others.good.good);
        rise = and_from (follows last x.0) (rises follows (Some x.0) xs.0) first.good.rises others.good.rise;
      };
      rest = others.rest;
    })))

members_again : {X : Type 0} (member : Member X) (text : X → List ℕ) (Good : X → Type 0) (follows : Option X → X → Bool) → AreCodecs member text Good follows → (xs : List X) (last : Option X) (rest : List ℕ) → AllByRecursion Good xs → rises follows last xs ≡ true
    → members_at member last (length xs) (flat_map text xs ++ rest) ≡ Ok (xs, rest)
unfolding members_at
members_again member text Good follows codecs [] last rest good rise = refl
members_again member text Good follows codecs (x ∷ xs) last rest good rise =
    let rises_on = and_parts (follows last x) (rises follows (Some x) xs) rise in
    let first = (codecs last).again x (flat_map text xs ++ rest) (record { good = good.0; rises = rises_on.0 }) in
    let regrouped : flat_map text (x ∷ xs) ++ rest ≡ text x ++ (flat_map text xs ++ rest) = ap (λ (t : List ℕ). t ++ rest) (flat_map-cons text x xs) ∙ append_assoc (text x) (flat_map text xs) rest in
    ap (members_at member last (suc (length xs))) regrouped ∙ rw (first, members_again member text Good follows codecs xs (Some x) rest good.1 rises_on.1) refl

of_members : {X : Type 0} (member : Member X) (text : X → List ℕ) (Good : X → Type 0) (follows : Option X → X → Bool) → AreCodecs member text Good follows → (n : ℕ) → IsCodec (flat_map text) (AreMembers Good follows None n) (members_at member None n)
of_members member text Good follows codecs n = record {
  again = λ xs rest are.
      ap (λ (k : ℕ). members_at member None k (flat_map text xs ++ rest)) (sym are.len) ∙ members_again member text Good follows codecs xs None rest are.good are.rise;
  found = members_found member text Good follows codecs n None;
}

-- a list that can be counted, of good members that rise
pub record IsGoodList {X : Type 0} (Good : X → Type 0) (follows : Option X → X → Bool) (xs : List X) : Type 0 where
  pub few : length xs < length_limit
  pub good : AllByRecursion Good xs
  pub rise : rises follows None xs ≡ true

pub of_list : {X : Type 0} (member : Member X) (text : X → List ℕ) (Good : X → Type 0) (follows : Option X → X → Bool) → AreCodecs member text Good follows → IsCodec (list_text text) (IsGoodList Good follows) (list_at member)
unfolding list_at
of_list member text Good follows codecs =
    codec_as (list_text text) (IsGoodList Good follows) (pair length (flat_map text) (AreMembers Good follows None) (members_at member None) of_four (λ n xs are. are.len) (of_members member text Good follows codecs))
    (λ xs fits. refl)
    (λ xs fits. record { few = fits.0; good = fits.1.good; rise = fits.1.rise })
    (λ xs is. (is.few, record { len = refl; good = is.good; rise = is.rise }))
