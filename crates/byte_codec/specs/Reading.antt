-- Fields at the front of bytes: a value and the bytes after it, or the fault that the caller named for too few bytes.
use Rattle.std.specs.Prelude.{◌≡◌, ℕ, nat_lt, List, [], ◌∷◌, length, take, drop, Result, Ok, Err, if◌then◌else◌}
use Rattle.std.specs.Int.{Width, byte_len}
use Rattle.byte_codec.specs.Field.{number_in}

-- what `f` makes of the value that was read, or the fault if there was one
infixl 10 ◌>>=◌
abbrev pub ◌>>=◌ : {F A B : Type 0} → Result A F → (A → Result B F) → Result B F
(Ok x) >>= f = f x
(Err fault) >>= f = Err fault

-- a call returned what reading gives: the value, seen by `view`, or the fault `short`
abbrev pub Gives : {F X Y : Type 0} → F → (X → Y) → Result X F → Result Y F → Type 0
Gives short view (Ok x) read = read ≡ Ok (view x)
Gives short view (Err fault) read = (fault ≡ short) × (read ≡ Err short)

-- the first `n` bytes and the rest, or `short` if there are fewer
unfoldable pub bytes_at : {F : Type 0} → F → ℕ → List ℕ → Result (List ℕ × List ℕ) F
bytes_at short n bytes = if nat_lt (length bytes) n then Err short else Ok (take n bytes, drop n bytes)

-- the first byte and the rest, or `short` if there is none
unfoldable pub byte_at : {F : Type 0} → F → List ℕ → Result (ℕ × List ℕ) F
byte_at short [] = Err short
byte_at short (byte ∷ rest) = Ok (byte, rest)

-- the number in the first bytes, as many as its width has, and the rest, or `short` if there are fewer
unfoldable pub number_at : {F : Type 0} → F → Width → List ℕ → Result (ℕ × List ℕ) F
number_at short width bytes = do
  field ← bytes_at short (byte_len width) bytes
  Ok (number_in width field.0, field.1)
