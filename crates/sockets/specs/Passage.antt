-- How far a stream of bytes is into a frame. (This project's own.)
use Rattle.std.specs.Prelude.{◌≡◌, ℕ, ◌+◌, ◌*◌, ◌-◌, ◌<◌, ◌^◌, min, Bool, false, ◌&&◌, ◌||◌, ◌==◌, nat_le, nat_lt, List, [], ◌∷◌, ◌++◌, length, if◌then◌else◌}
use Rattle.sockets.specs.declared.passage.Passage.{Passage}

-- whether the next byte begins a frame
abbrev pub is_between : Passage → Bool
is_between passage = passage.came == 0 && passage.left == 0

-- the number, or the greatest that four bytes write if that is less
abbrev pub capped : ℕ → ℕ
capped number = min number (2 ^ 32 - 1)

-- the passage after `came` bytes of a length, which write the number `len`: after the fourth, the kind and the body
-- are to come
abbrev pub lengthened : ℕ → ℕ → Passage
lengthened came len =
    if nat_le 4 came then record { came = 0; len = 0; left = capped (len + 1) }
    else record { came = came; len = len; left = 0 }

-- the passage after the next byte: one byte less is to come, or one more byte of the length came, highest byte first
abbrev pub passed : Passage → ℕ → Passage
passed passage byte =
    if nat_lt 0 passage.left then record passage { left = passage.left - 1 }
    else lengthened (capped (passage.came + 1)) (capped (capped (passage.len * 256) + byte))

-- the passage after these bytes
abbrev pub passed_all : Passage → List ℕ → Passage
passed_all passage [] = passage
passed_all passage (byte ∷ bytes) = passed_all (passed passage byte) bytes

-- whether a frame ends in these bytes: behind one of them the next byte begins a frame
abbrev pub ends_in : Passage → List ℕ → Bool
ends_in passage [] = false
ends_in passage (byte ∷ bytes) = is_between (passed passage byte) || ends_in (passed passage byte) bytes

-- the first of these bytes were taken in, and these are left; a frame ended behind the last of them, or in none
pub record PassesSome (old : Passage) (bytes : List ℕ) (new : Passage) (left : List ℕ) : Type 0 where
  pub taken : List ℕ
  pub some : 0 < length taken
  pub parts : bytes ≡ taken ++ left
  pub passes : new ≡ passed_all old taken
  pub ends : ends_in old taken ≡ is_between new
