-- Decimal numbers of 64 bits, as a script writes them: nothing but digits, the first of which may be zeros. (This
-- project's own.)
use Rattle.std.specs.Prelude.{ℕ, ◌+◌, ◌-◌, ◌*◌, ◌^◌, ◌&&◌, nat_lt, List, [], ◌∷◌, Option, Some, None, option_and_then, if◌then◌else◌}
use Rattle.std.specs.Char.{is_ascii_digit}

-- the number with one more digit at its end, if the byte is a digit and the number fits 64 bits
abbrev pub with_digit : ℕ → ℕ → Option ℕ
with_digit value byte =
    if is_ascii_digit byte && nat_lt (value * 10 + (byte - 48)) (2 ^ 64) then Some (value * 10 + (byte - 48)) else None

-- the number with more digits at its end, if each byte is a digit and the number fits 64 bits
abbrev pub number_after : ℕ → List ℕ → Option ℕ
number_after value [] = Some value
number_after value (byte ∷ bytes) = option_and_then (λ longer. number_after longer bytes) (with_digit value byte)

-- the number that one or more decimal digits write, if it fits 64 bits
abbrev pub number_of : List ℕ → Option ℕ
number_of [] = None
number_of (byte ∷ bytes) = number_after 0 (byte ∷ bytes)
