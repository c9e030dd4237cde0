-- Texts in parts, and the values of digits.
use Rattle.std.specs.Prelude.{ℕ, ◌+◌, ◌-◌, ◌*◌, ◌==◌, ◌&&◌, min, not, Bool, false, nat_le, nat_eq, List, [], ◌∷◌, length, take, drop, fold, Option, Some, None, if◌then◌else◌}
use Rattle.std.specs.List.{list_all}
use Rattle.std.specs.Cmp.Lexicographic.{pointwise}
use Rattle.std.proofs.Math.Nat.{min-le_right}
use Rattle.eden_base.specs.Limits.{greatest_size}
use Rattle.eden_base.specs.declared.attr.Perm.{Perm}

-- what follows `front` in a text, if the text begins with it
abbrev pub after : List ℕ → List ℕ → Option (List ℕ)
after front text = if pointwise nat_eq (take (length front) text) front then Some (drop (length front) text) else None

-- the parts with one more byte at the start of the first
abbrev pub in_first : ℕ → List (List ℕ) → List (List ℕ)
in_first b [] = (b ∷ []) ∷ []
in_first b (part ∷ more) = (b ∷ part) ∷ more

-- the parts of a text before, between and after the occurrences of this byte: one more than there are of these
abbrev pub parts : ℕ → List ℕ → List (List ℕ)
parts byte [] = [] ∷ []
parts byte (b ∷ bs) = if b == byte then [] ∷ parts byte bs else in_first b (parts byte bs)

-- all parts but the last
abbrev pub front : List (List ℕ) → List (List ℕ)
front [] = []
front (part ∷ []) = []
front (part ∷ next ∷ more) = part ∷ front (next ∷ more)

-- the last part
abbrev pub last : List (List ℕ) → List ℕ
last [] = []
last (part ∷ []) = part
last (part ∷ next ∷ more) = last (next ∷ more)

-- the byte is an octal digit, `0` to `7`
abbrev pub is_octal : ℕ → Bool
is_octal d = nat_le 48 d && nat_le d 55

-- the byte is a decimal digit, `0` to `9`
abbrev pub is_decimal : ℕ → Bool
is_decimal d = nat_le 48 d && nat_le d 57

-- the permissions with these twelve bits
abbrev pub perm_of : ℕ → Perm
perm_of bits = record { bits = min bits 4095; in_range = min-le_right bits 4095 }

-- the permissions of a mode in four octal digits, or none for any other text
abbrev pub mode_of : List ℕ → Option Perm
mode_of digits =
    if length digits == 4 && list_all is_octal digits then Some (perm_of (fold (λ n d. 8 * n + (d - 48)) 0 digits))
    else None

-- the value of decimal digits
abbrev pub decimal : List ℕ → ℕ
decimal digits = fold (λ n d. 10 * n + (d - 48)) 0 digits

-- the digits begin with a zero that another byte follows
abbrev pub has_leading_zero : List ℕ → Bool
has_leading_zero [] = false
has_leading_zero (d ∷ []) = false
has_leading_zero (d ∷ e ∷ more) = d == 48

-- the value of decimal digits without a leading zero, if a file may have this size, else none
abbrev pub size_of : List ℕ → Option ℕ
size_of digits =
    if length digits == 0 then None
    else if has_leading_zero digits then None
    else if not (list_all is_decimal digits) then None
    else if nat_le (decimal digits) greatest_size then Some (decimal digits)
    else None
