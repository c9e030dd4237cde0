-- A number that was written is read again, and bytes that were read as a number are its bytes.
use Rattle.std.proofs.Common.{◌≡◌, ℕ, ◌^◌, ◌<◌, ◌≤◌, ℤ, FitsSigned, List, ◌++◌, length, take, drop, sym, ap, ◌∙◌, length-take, arith}
use Rattle.std.specs.Int.{w32, w64, from_le_bytes, cast_unsigned, cast_signed}
use Rattle.std.proofs.lemmas.Int.{ints, to_z-of_z}
use Rattle.std.proofs.lemmas.List.{take-append-drop}
use Rattle.std.proofs.lemmas.Nat.{le_bytes_4, le_bytes_8}
use Rattle.byte_codec.specs.Field.{AreBytes}
use Rattle.byte_codec.proofs.ByteLemmas.{AreBytes-take}
use Rattle.byteorder.specs.Endian.{little_number}
use Rattle.byteorder.specs.Numbers.{little_number-reads_back, little_from-append, little_from-lt}
use Rattle.fuse_wire.specs.Field.{i32_bytes, u32_bytes, u64_bytes, i32_at, u32_at, u64_at}

-- ---- what was written is read again

pub u32_again : (n : ℕ) (rest : List ℕ) → n < 2 ^ 32 → u32_at (u32_bytes n ++ rest) ≡ n
unfolding u32_at u32_bytes
u32_again n rest lt = little_number-reads_back 4 n rest lt

pub u64_again : (n : ℕ) (rest : List ℕ) → n < 2 ^ 64 → u64_at (u64_bytes n ++ rest) ≡ n
unfolding u64_at u64_bytes
u64_again n rest lt = little_number-reads_back 8 n rest lt

-- the bits of a signed number fit
pub bits_below : (n : ℤ) → FitsSigned w32 n → cast_unsigned w32 n < 2 ^ 32
bits_below n fits = omega (arith, ints)

-- the unsigned number in the bytes of a signed one
pub i32_word : (n : ℤ) (rest : List ℕ) → FitsSigned w32 n → u32_at (i32_bytes n ++ rest) ≡ cast_unsigned w32 n
unfolding i32_bytes
i32_word n rest fits = u32_again (cast_unsigned w32 n) rest (bits_below n fits)

pub i32_again : (n : ℤ) (rest : List ℕ) → FitsSigned w32 n → i32_at (i32_bytes n ++ rest) ≡ n
unfolding i32_at i32_bytes
i32_again n rest fits = ap (cast_signed w32) (u32_again (cast_unsigned w32 n) rest (bits_below n fits)) ∙ to_z-of_z w32 n fits

-- ---- what is read was written

pub u32_below : (bytes : List ℕ) → AreBytes bytes → u32_at bytes < 2 ^ 32
unfolding u32_at
u32_below bytes are = little_from-lt 0 4 bytes are

pub u32_front : (bytes : List ℕ) → AreBytes bytes → 4 ≤ length bytes → u32_bytes (u32_at bytes) ++ drop 4 bytes ≡ bytes
unfolding u32_at u32_bytes
u32_front bytes are long =
    let front = take 4 bytes in
    let whole = take-append-drop 4 bytes in
    let four : length front ≡ 4 = omega (arith, length-take 4 bytes) in
    let same : little_number 4 bytes ≡ little_number 4 front = ap (little_number 4) (sym whole) ∙ little_from-append 4 front (drop 4 bytes) (omega arith) in
    let as_std : little_number 4 front ≡ from_le_bytes w32 front = omega arith in
    let back = le_bytes_4 front (little_number 4 bytes) four (AreBytes-take 4 bytes are) (same ∙ as_std) in
    ap (λ (b : List ℕ). b ++ drop 4 bytes) back ∙ whole

pub u64_front : (bytes : List ℕ) → AreBytes bytes → 8 ≤ length bytes → u64_bytes (u64_at bytes) ++ drop 8 bytes ≡ bytes
unfolding u64_at u64_bytes
u64_front bytes are long =
    let front = take 8 bytes in
    let whole = take-append-drop 8 bytes in
    let eight : length front ≡ 8 = omega (arith, length-take 8 bytes) in
    let same : little_number 8 bytes ≡ little_number 8 front = ap (little_number 8) (sym whole) ∙ little_from-append 8 front (drop 8 bytes) (omega arith) in
    let as_std : little_number 8 front ≡ from_le_bytes w64 front = omega arith in
    let back = le_bytes_8 front (little_number 8 bytes) eight (AreBytes-take 8 bytes are) (same ∙ as_std) in
    ap (λ (b : List ℕ). b ++ drop 8 bytes) back ∙ whole
