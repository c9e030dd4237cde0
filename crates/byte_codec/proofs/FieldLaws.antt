-- A field that is written is read again, and a field that was read is written with the same bytes.
use Rattle.std.proofs.Common.{◌≡◌, ℕ, suc, ◌^◌, ◌<◌, ◌≤◌, ltb, List, [], ◌∷◌, ◌++◌, length, Ok, refl, sym, ap, ◌∙◌, length-append, length-take, arith}
use Rattle.std.specs.Int.{Width, w16, w32, w64, byte_len}
use Rattle.std.proofs.lemmas.Bool.{ltb-false, le-ltb}
use Rattle.std.proofs.lemmas.List.{take_at, drop_at, take-append-drop}
use Rattle.std.proofs.lemmas.Nat.{be_bytes_2, be_bytes_4, be_bytes_8, from_be_bytes-to_be_bytes_2, from_be_bytes-to_be_bytes_4, from_be_bytes-to_be_bytes_8}
use Rattle.byte_codec.specs.Field.{AreBytes, byte_text, number_bytes, number_in}
use Rattle.byte_codec.specs.Reading.{byte_at, bytes_at, number_at}
use Rattle.byte_codec.proofs.ByteLemmas.{AreBytes-drop, AreBytes-take}
use Rattle.byte_codec.proofs.YieldLemmas.{Yields, Value, Fault, then_yields, unless_yields}

-- ---- widths

-- a width in which each number below a limit is read as it was put
pub record IsWidth (width : Width) (limit : ℕ) : Type 0 where
  pub len : (n : ℕ) → length (number_bytes width n) ≡ byte_len width
  pub again : (n : ℕ) → n < limit → number_in width (number_bytes width n) ≡ n

pub two : IsWidth w16 (2 ^ 16)
unfolding number_bytes number_in
two = record { len = λ n. refl; again = λ n lt. from_be_bytes-to_be_bytes_2 n lt }

pub four : IsWidth w32 (2 ^ 32)
unfolding number_bytes number_in
four = record { len = λ n. refl; again = λ n lt. from_be_bytes-to_be_bytes_4 n lt }

pub eight : IsWidth w64 (2 ^ 64)
unfolding number_bytes number_in
eight = record { len = λ n. refl; again = λ n lt. from_be_bytes-to_be_bytes_8 n lt }

-- a width whose bytes are written again from the number that they are
pub record IsSpelled (width : Width) (limit : ℕ) : Type 0 where
  pub back : (bytes : List ℕ) → length bytes ≡ byte_len width → AreBytes bytes → number_bytes width (number_in width bytes) ≡ bytes
  pub below : (bytes : List ℕ) → AreBytes bytes → number_in width bytes < limit

pub two_back : IsSpelled w16 (2 ^ 16)
unfolding number_bytes number_in
two_back = record { back = λ bytes len are. be_bytes_2 bytes _ len are refl; below = λ bytes are. omega (arith, are 0, are 1) }

pub four_back : IsSpelled w32 (2 ^ 32)
unfolding number_bytes number_in
four_back = record {
  back = λ bytes len are. be_bytes_4 bytes _ len are refl;
  below = λ bytes are. omega (arith, are 0, are 1, are 2, are 3);
}

pub eight_back : IsSpelled w64 (2 ^ 64)
unfolding number_bytes number_in
eight_back = record {
  back = λ bytes len are. be_bytes_8 bytes _ len are refl;
  below = λ bytes are. omega (arith, are 0, are 1, are 2, are 3, are 4, are 5, are 6, are 7);
}

-- ---- what was read

-- a value that was read: its text stood in front, and it is a good one
pub record Found {X : Type 0} (text : X → List ℕ) (Good : X → Type 0) (bytes : List ℕ) (x : X × List ℕ) : Type 0 where
  pub parts : bytes ≡ text x.0 ++ x.1
  pub good : Good x.0
  pub rest : AreBytes x.1

-- bytes are their own text
abbrev pub itself : List ℕ → List ℕ
itself bytes = bytes

pub record HasLength (n : ℕ) (bytes : List ℕ) : Type 0 where
  pub len : length bytes ≡ n
  pub are : AreBytes bytes

abbrev pub IsBelow : ℕ → ℕ → Type 0
IsBelow limit n = n < limit

-- ---- a count of bytes

pub bytes_found : {F : Type 0} {Bad : F → Type 0} (short : F) (n : ℕ) (bytes : List ℕ) → Bad short → AreBytes bytes → Yields Bad (Found itself (HasLength n) bytes) (bytes_at short n bytes)
unfolding bytes_at
bytes_found short n bytes bad are =
    unless_yields (ltb (length bytes) n) short _ bad (λ enough.
    let long : n ≤ length bytes = ltb-false _ _ enough in
    Value (record {
      parts = sym (take-append-drop n bytes);
      good = record { len = omega (arith, length-take n bytes); are = AreBytes-take n bytes are };
      rest = AreBytes-drop n bytes are;
    }))

pub bytes_again : {F : Type 0} (short : F) (n : ℕ) (field rest : List ℕ) → length field ≡ n → bytes_at short n (field ++ rest) ≡ Ok (field, rest)
unfolding bytes_at
bytes_again short n field rest len =
    let long = le-ltb (length (field ++ rest)) n (omega (arith, length-append field rest)) in
    rw (long, take_at field rest n len, drop_at field rest n len) refl

-- ---- one byte

pub byte_found : {F : Type 0} {Bad : F → Type 0} (short : F) (bytes : List ℕ) → Bad short → AreBytes bytes → Yields Bad (Found byte_text (IsBelow 256) bytes) (byte_at short bytes)
unfolding byte_at byte_text
byte_found short [] bad are = Fault bad
byte_found short (b ∷ rest) bad are = Value (record { parts = refl; good = are 0; rest = λ i. are (suc i) })

pub byte_again : {F : Type 0} (short : F) (b : ℕ) (rest : List ℕ) → byte_at short (byte_text b ++ rest) ≡ Ok (b, rest)
unfolding byte_at byte_text
byte_again short b rest = refl

-- ---- numbers

pub number_found : {F : Type 0} {Bad : F → Type 0} {width : Width} {limit : ℕ} (short : F) (bytes : List ℕ) → Bad short → IsSpelled width limit → AreBytes bytes
    → Yields Bad (Found (number_bytes width) (IsBelow limit) bytes) (number_at short width bytes)
unfolding number_at
number_found {width = width} short bytes bad is are =
    then_yields _ _ (bytes_found short (byte_len width) bytes bad are) (λ field found.
    let same : number_bytes width (number_in width field.0) ≡ field.0 = is.back field.0 found.good.len found.good.are in
    Value (record {
      parts = found.parts ∙ ap (λ (t : List ℕ). t ++ field.1) (sym same);
      good = is.below field.0 found.good.are;
      rest = found.rest;
    }))

pub number_again : {F : Type 0} (short : F) (width : Width) (limit n : ℕ) (rest : List ℕ) → IsWidth width limit → n < limit → number_at short width (number_bytes width n ++ rest) ≡ Ok (n, rest)
unfolding number_at
number_again short width limit n rest is lt = rw (bytes_again short (byte_len width) (number_bytes width n) rest (is.len n), is.again n lt) refl
