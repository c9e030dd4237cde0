-- Bytes, and the hexadecimal texts that they have.
use Rattle.std.proofs.Common.{◌≡◌, ℕ, ◌+◌, ◌-◌, ◌*◌, ◌/◌, ◌%◌, ◌<◌, ◌≤◌, inl, inr, ◌==◌, ◌&&◌, true, false, nat_le, List, [], ◌∷◌, length, Some, None, Ok, Err, refl, ap, subst, arith, if◌then◌else◌}
use Rattle.std.proofs.lemmas.Bool.Decides.{nat_tests}
use Rattle.hex.specs.Hex.{hex_digit_value, digit_or_error, value_at, decode_pairs, decode_sized, ◌>>=◌}
use Rattle.hex.specs.declared.error.FromHexError.TheVariants.{OddLength, InvalidStringLength}
use Rattle.manifest.specs.ManifestForm.{IsHexDigit, IsHexText}
use Rattle.manifest.proofs.PartsLaws.{has}

-- ---- digits that are read

digit_of_value : (c v : ℕ) → hex_digit_value c ≡ Some v → (v < 16) × IsHexDigit v c
digit_of_value c v h =
    elim (nat_le 65 c && nat_le c 70) as (λ t. (nat_le 65 c && nat_le c 70) ≡ t → (if t then Some (c - 55) else if nat_le 97 c && nat_le c 102 then Some (c - 87) else if nat_le 48 c && nat_le c 57 then Some (c - 48) else None) ≡ Some v → (v < 16) × IsHexDigit v c) [
      | true ↦ λ e g.
          let low : 65 ≤ c = grind (arith, nat_tests) in
          let high : c ≤ 70 = grind (arith, nat_tests) in
          let is : c - 55 ≡ v = cc in
          (omega (arith, is), inr (omega (arith, is), omega (arith, is), inl (omega (arith, is))))
      | false ↦ λ e g. elim (nat_le 97 c && nat_le c 102) as (λ t. (nat_le 97 c && nat_le c 102) ≡ t → (if t then Some (c - 87) else if nat_le 48 c && nat_le c 57 then Some (c - 48) else None) ≡ Some v → (v < 16) × IsHexDigit v c) [
        | true ↦ λ k w.
            let low : 97 ≤ c = grind (arith, nat_tests) in
            let high : c ≤ 102 = grind (arith, nat_tests) in
            let is : c - 87 ≡ v = cc in
            (omega (arith, is), inr (omega (arith, is), omega (arith, is), inr (omega (arith, is))))
        | false ↦ λ k w. elim (nat_le 48 c && nat_le c 57) as (λ t. (nat_le 48 c && nat_le c 57) ≡ t → (if t then Some (c - 48) else None) ≡ Some v → (v < 16) × IsHexDigit v c) [
          | true ↦ λ l z.
              let low : 48 ≤ c = grind (arith, nat_tests) in
              let high : c ≤ 57 = grind (arith, nat_tests) in
              let is : c - 48 ≡ v = cc in
              (omega (arith, is), inl (omega (arith, is), omega (arith, is)))
          | false ↦ λ l z. absurd (cc)
        ] refl w
      ] refl g
    ] refl h

abbrev first_digit : (v w c : ℕ) → (v < 16) × IsHexDigit v c → w < 16 → IsHexDigit ((v * 16 + w) / 16) c
first_digit v w c d low = let e : v ≡ (v * 16 + w) / 16 = omega arith in subst (λ x. IsHexDigit x c) e d.1

abbrev second_digit : (v w c : ℕ) → v < 16 → (w < 16) × IsHexDigit w c → IsHexDigit ((v * 16 + w) % 16) c
second_digit v w c low d = let e : w ≡ (v * 16 + w) % 16 = omega (arith, d.0) in subst (λ x. IsHexDigit x c) e d.1

hex_of_pairs : (i : ℕ) (digits bytes : List ℕ) → decode_pairs i digits ≡ Ok bytes → IsHexText bytes digits
unfolding decode_pairs
hex_of_pairs i [] [] h = tt
hex_of_pairs i [] (b ∷ bs) h = absurd (cc)
hex_of_pairs i (d ∷ []) bytes h = absurd (cc)
hex_of_pairs i (high ∷ low ∷ rest) bytes h =
    elim (hex_digit_value high) as (λ o. hex_digit_value high ≡ o → ((digit_or_error high i o >>= (λ x. value_at low (i + 1) >>= (λ y. Ok (x * 16 + y)))) >>= (λ byte. decode_pairs (i + 2) rest >>= (λ bs. Ok (byte ∷ bs)))) ≡ Ok bytes → IsHexText bytes (high ∷ low ∷ rest)) [
      | None ↦ λ e g. absurd (cc)
      | Some v ↦ λ e g. elim (hex_digit_value low) as (λ o. hex_digit_value low ≡ o → ((digit_or_error low (i + 1) o >>= (λ y. Ok (v * 16 + y))) >>= (λ byte. decode_pairs (i + 2) rest >>= (λ bs. Ok (byte ∷ bs)))) ≡ Ok bytes → IsHexText bytes (high ∷ low ∷ rest)) [
        | None ↦ λ k w. absurd (cc)
        | Some u ↦ λ k w. elim (decode_pairs (i + 2) rest) as (λ r. decode_pairs (i + 2) rest ≡ r → (r >>= (λ bs. Ok ((v * 16 + u) ∷ bs))) ≡ Ok bytes → IsHexText bytes (high ∷ low ∷ rest)) [
          | Err fault ↦ λ l z. absurd (cc)
          | Ok bs ↦ λ l z.
              let same : (v * 16 + u) ∷ bs ≡ bytes = cc in
              let a = digit_of_value high v e in
              let b = digit_of_value low u k in
              subst (λ xs. IsHexText xs (high ∷ low ∷ rest)) same (first_digit v u high a b.0, second_digit v u low a.0 b, hex_of_pairs (i + 2) rest bs l)
        ] refl w
      ] refl g
    ] refl h

pub hex_of_sized : (digits bytes : List ℕ) → decode_sized digits 20 ≡ Ok bytes → IsHexText bytes digits
hex_of_sized digits bytes h =
    elim (length digits % 2 == 1) as (λ t. (if t then Err OddLength else if length digits / 2 == 20 then decode_pairs 0 digits else Err InvalidStringLength) ≡ Ok bytes → IsHexText bytes digits) [
      | true ↦ λ g. absurd (cc)
      | false ↦ λ g. elim (length digits / 2 == 20) as (λ t. (if t then decode_pairs 0 digits else Err InvalidStringLength) ≡ Ok bytes → IsHexText bytes digits) [
        | true ↦ λ w. hex_of_pairs 0 digits bytes w
        | false ↦ λ w. absurd (cc)
      ] g
    ] h

-- ---- digits that are written

value_of_digit : (v c : ℕ) → IsHexDigit v c → hex_digit_value c ≡ Some v
value_of_digit v c (inl (low, is)) =
    let a : (nat_le 65 c && nat_le c 70) ≡ false = grind (arith, nat_tests) in
    let b : (nat_le 97 c && nat_le c 102) ≡ false = grind (arith, nat_tests) in
    let d : (nat_le 48 c && nat_le c 57) ≡ true = grind (arith, nat_tests) in
    let n : c - 48 ≡ v = omega (arith, is) in
    rw (a, b, d) (ap (λ x. Some x) n)
value_of_digit v c (inr (low, high, inl is)) =
    let a : (nat_le 65 c && nat_le c 70) ≡ true = grind (arith, nat_tests) in
    let n : c - 55 ≡ v = omega (arith, is) in
    rw a (ap (λ x. Some x) n)
value_of_digit v c (inr (low, high, inr is)) =
    let a : (nat_le 65 c && nat_le c 70) ≡ false = grind (arith, nat_tests) in
    let b : (nat_le 97 c && nat_le c 102) ≡ true = grind (arith, nat_tests) in
    let n : c - 87 ≡ v = omega (arith, is) in
    rw (a, b) (ap (λ x. Some x) n)

digit_is_no_end : (v c : ℕ) → IsHexDigit v c → (c == 10) ≡ false
digit_is_no_end v c (inl (low, is)) = grind (arith, nat_tests)
digit_is_no_end v c (inr (low, high, inl is)) = grind (arith, nat_tests)
digit_is_no_end v c (inr (low, high, inr is)) = grind (arith, nat_tests)

-- a text of bytes: its length, and that it is in one line
pub hex-length : (bytes digits : List ℕ) → IsHexText bytes digits → length digits ≡ 2 * length bytes
hex-length [] [] h = refl
hex-length [] (d ∷ ds) h = absurd h
hex-length (b ∷ bs) [] h = absurd h
hex-length (b ∷ bs) (d ∷ []) h = absurd h
hex-length (b ∷ bs) (high ∷ low ∷ ds) (a, c, h) = let e = hex-length bs ds h in omega (arith, e)

pub hex-one_line : (bytes digits : List ℕ) → IsHexText bytes digits → has 10 digits ≡ false
hex-one_line [] [] h = refl
hex-one_line [] (d ∷ ds) h = absurd h
hex-one_line (b ∷ bs) [] h = absurd h
hex-one_line (b ∷ bs) (d ∷ []) h = absurd h
hex-one_line (b ∷ bs) (high ∷ low ∷ ds) (a, c, h) =
    let x = digit_is_no_end (b / 16) high a in
    let y = digit_is_no_end (b % 16) low c in
    let z = hex-one_line bs ds h in
    rw (x, y) z

pairs_of_hex : (i : ℕ) (bytes digits : List ℕ) → IsHexText bytes digits → decode_pairs i digits ≡ Ok bytes
unfolding decode_pairs
pairs_of_hex i [] [] h = refl
pairs_of_hex i [] (d ∷ ds) h = absurd h
pairs_of_hex i (b ∷ bs) [] h = absurd h
pairs_of_hex i (b ∷ bs) (d ∷ []) h = absurd h
pairs_of_hex i (b ∷ bs) (high ∷ low ∷ ds) (a, c, h) =
    let x = value_of_digit (b / 16) high a in
    let y = value_of_digit (b % 16) low c in
    let z = pairs_of_hex (i + 2) bs ds h in
    let whole : b / 16 * 16 + b % 16 ≡ b = omega arith in
    rw (x, y, z) (ap (λ n. Ok (n ∷ bs)) whole)

-- the text of twenty bytes is read as them
pub sized_of_hex : (bytes digits : List ℕ) → length bytes ≡ 20 → IsHexText bytes digits → decode_sized digits 20 ≡ Ok bytes
sized_of_hex bytes digits twenty h =
    let e = hex-length bytes digits h in
    let even : (length digits % 2 == 1) ≡ false = grind (arith, nat_tests) in
    let long : (length digits / 2 == 20) ≡ true = grind (arith, nat_tests) in
    rw (even, long) (pairs_of_hex 0 bytes digits h)
