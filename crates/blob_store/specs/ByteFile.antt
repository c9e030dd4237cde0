-- What reads of a file at offsets give, of a file whose bytes are known. Of a file of the system they are not known, and
-- nothing is said then. (This project's own, by pread(2).)
use Rattle.std.specs.Prelude.{◌≡◌, ◌≤◌, ◌<◌, ℕ, List, length, take, Option, Some, None, ⊤}
use Rattle.blob_store.specs.Blob.{filled, part}

-- the room begins with this many bytes of the file, from the offset on
abbrev pub Holds : Option (List ℕ) → ℕ → ℕ → List ℕ → Type 0
Holds None offset count room = ⊤
Holds (Some blob) offset count room = take count room ≡ part offset count blob

-- the file has no byte from the offset on
abbrev pub Ends : Option (List ℕ) → ℕ → Type 0
Ends None offset = ⊤
Ends (Some blob) offset = length blob ≤ offset

-- a read gave this many bytes: none only at the end, or with no room
abbrev pub ReadsAt : Option (List ℕ) → ℕ → ℕ → List ℕ → Type 0
ReadsAt known offset count room = Holds known offset count room × (count ≡ 0 → 0 < length room → Ends known offset)

-- the bytes that the file has from the offset on, with zeros for those behind its end
abbrev pub GivesPart : Option (List ℕ) → ℕ → ℕ → List ℕ → Type 0
GivesPart None offset len bytes = ⊤
GivesPart (Some blob) offset len bytes = bytes ≡ filled len (part offset len blob)
