-- The lines of a text. (This project's own.)
use Rattle.std.specs.Prelude.{ℕ, ◌==◌, Bool, List, [], ◌∷◌, if◌then◌else◌}
use Rattle.std.specs.List.{onto_first}

-- the byte that ends a line
abbrev pub is_lf : ℕ → Bool
is_lf byte = byte == 10

-- the lines of a text, each without the LF that ends it; the last line may lack its LF
abbrev pub lines_of : List ℕ → List (List ℕ)
lines_of [] = []
lines_of (byte ∷ bytes) = if is_lf byte then [] ∷ lines_of bytes else onto_first byte (lines_of bytes)
