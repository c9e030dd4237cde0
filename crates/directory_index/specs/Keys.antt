-- The key of a number and bytes.
use Rattle.std.specs.Prelude.{ℕ, ◌+◌, ◌-◌, ◌*◌, ◌%◌, ◌^◌, List, [], ◌∷◌, ◌++◌, length, drop, nat_lt, if◌then◌else◌}
use Rattle.std.specs.Int.{w64, from_le_bytes, rotate_left}

-- eight bytes after eight, each as a number with the lowest byte first; the last bytes, fewer than eight, are left out
abbrev pub eights : List ℕ → List ℕ
eights (a ∷ b ∷ c ∷ d ∷ e ∷ f ∷ g ∷ h ∷ rest) =
    from_le_bytes w64 (a ∷ b ∷ c ∷ d ∷ e ∷ f ∷ g ∷ h ∷ []) ∷ eights rest
eights bytes = []

-- the last eight bytes as a number; of fewer bytes each is a number
abbrev pub last_eight : List ℕ → List ℕ
last_eight bytes =
    if nat_lt (length bytes) 8 then bytes else from_le_bytes w64 (drop (length bytes - 8) bytes) ∷ []

-- what a key takes of bytes: eight after eight, the last eight once more, and how many bytes there are
abbrev pub parts_of : List ℕ → List ℕ
parts_of bytes = eights bytes ++ last_eight bytes ++ length bytes ∷ []

-- the odd number by which a key is multiplied
abbrev pub factor : ℕ
factor = 11400714819323198485

-- the key that follows from a key and one more part. The halves of the product change places: a product has in its low
-- bits nothing of a part's high ones, and a bucket is chosen by the low bits
abbrev pub key_with : ℕ → ℕ → ℕ
key_with key part = rotate_left w64 (((key + part) % 2 ^ 64 * factor) % 2 ^ 64) 32

-- the key that follows from a key and more parts
abbrev pub key_with_all : ℕ → List ℕ → ℕ
key_with_all key [] = key
key_with_all key (part ∷ parts) = key_with_all (key_with key part) parts

-- the key of a number and bytes
unfoldable pub key_of : ℕ → List ℕ → ℕ
key_of number bytes = key_with_all ((number * factor) % 2 ^ 64) (parts_of bytes)
