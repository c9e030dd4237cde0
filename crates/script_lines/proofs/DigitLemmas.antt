-- Where a number is read, there is no space.
use Rattle.std.proofs.Common.{◌≡◌, ℕ, zero, suc, ◌+◌, ◌<◌, get_or, ◌-◌, ◌*◌, ◌^◌, take, drop, Bool, true, false, ◌==◌, ◌&&◌, nat_lt, List, [], ◌∷◌, length, Option, Some, None, refl, ap, arith, if◌then◌else◌}
use Rattle.std.specs.Char.{is_ascii_digit}
use Rattle.std.specs.List.{position_or_len}
use Rattle.std.specs.Option.{option_and_then, option_map}
use Rattle.std.proofs.lemmas.Bool.Decides.{nat_tests}
use Rattle.std.proofs.lemmas.List.Sums.{position_or_len_is}
use Rattle.eden_base.specs.Text.{cut}
use Rattle.script_lines.specs.Number.{number_after, number_of, with_digit}

abbrev is_space : ℕ → Bool
is_space byte = byte == 32

-- the digits behind make a number of what the first one makes
behind_digit : (n : ℕ) (bytes : List ℕ) (longer : Option ℕ) →
    option_and_then (λ (value : ℕ). number_after value bytes) longer ≡ Some n →
    (value : ℕ) × (number_after value bytes ≡ Some n)
behind_digit n bytes None is = let none : ⊥ = cc in absurd none
behind_digit n bytes (Some value) is = (value, is)

-- a number doesn't begin with a space
no_space_first : (value n byte : ℕ) (bytes : List ℕ) (b : Bool) → is_space byte ≡ b →
    number_after value (byte ∷ bytes) ≡ Some n → is_space byte ≡ false
no_space_first value n byte bytes false is read = is
no_space_first value n byte bytes true is read =
    let digit : is_ascii_digit byte ≡ false = grind (arith, nat_tests) in
    let gone : with_digit value byte ≡ None
    = ap (λ (d : Bool). if d && nat_lt (value * 10 + (byte - 48)) (2 ^ 64) then Some (value * 10 + (byte - 48)) else None) digit in
    let none : number_after value (byte ∷ bytes) ≡ None = ap (option_and_then (λ (longer : ℕ). number_after longer bytes)) gone in
    let never : ⊥ = cc in
    absurd never

-- where a number is read, no byte is a space
no_space : (value n : ℕ) (bytes : List ℕ) → number_after value bytes ≡ Some n → (k : ℕ) → k < length bytes →
    is_space (get_or bytes k 0) ≡ false
no_space value n [] read k within = absurd (omega (arith, within))
no_space value n (byte ∷ bytes) read zero within = no_space_first value n byte bytes (is_space byte) refl read
no_space value n (byte ∷ bytes) read (suc k) within =
    let (more, rest) = behind_digit n bytes (with_digit value byte) read in
    no_space more n bytes rest k (omega (arith, within))

-- a number isn't cut at a space
pub number_is_one_word : (n : ℕ) (words : List ℕ) → number_of words ≡ Some n → cut 32 words ≡ None
number_is_one_word n [] read = let none : ⊥ = cc in absurd none
number_is_one_word n (byte ∷ bytes) read =
    let words : List ℕ = byte ∷ bytes in
    let all : position_or_len is_space words ≡ length words
    = position_or_len_is is_space words (length words) 0 (omega arith) (no_space 0 n words read) (λ less. absurd (omega (arith, less))) in
    let none : nat_lt (position_or_len is_space words) (length words) ≡ false = grind (arith, nat_tests) in
    ap (λ (b : Bool). option_map (λ (i : ℕ). (take i words, drop (i + 1) words)) (if b then Some (position_or_len is_space words) else None)) none
