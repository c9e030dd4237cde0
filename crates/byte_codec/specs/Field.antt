-- Fields of bytes: numbers with the highest byte first.
use Rattle.std.specs.Prelude.{◌<◌, ℕ, List, [], ◌∷◌, slice_index}
use Rattle.std.specs.Int.{Width, to_be_bytes, from_be_bytes}

-- each number of the list is a byte
abbrev pub AreBytes : List ℕ → Type 0
AreBytes bytes = (i : ℕ) → slice_index bytes i < 256

-- one byte, as a list
unfoldable pub byte_text : ℕ → List ℕ
byte_text byte = byte ∷ []

-- a number in big-endian bytes, as many as the width has
unfoldable pub number_bytes : Width → ℕ → List ℕ
number_bytes width n = to_be_bytes width n

-- the number in the big-endian bytes of a field
unfoldable pub number_in : Width → List ℕ → ℕ
number_in width bytes = from_be_bytes width bytes
