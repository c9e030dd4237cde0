-- The bytes of a blob, their name, and which parts of them are told. (Pro Git, "Git Objects": a blob is named by the SHA-1
-- of the word `blob`, a space, its size in decimal digits, NUL, and its bytes.)
use Rattle.std.specs.Prelude.{◌≡◌, ◌++◌, ◌∷◌, [], ℕ, Bool, true, false, List, length, codes, decimal, Option, Some, None, ⊤}
use Rattle.byte_codec.specs.Bytes.{range_of}
use Rattle.sha1.specs.Sha1.{sha1}
use Rattle.git_objects.specs.declared.content.Content.{Content}
use Rattle.git_objects.specs.declared.content.Content.TheVariants.{InFile, InMemory}
use Rattle.git_objects.specs.declared.fault.ObjectFault.{ObjectFault}
use Rattle.git_objects.specs.declared.fault.ObjectFault.TheVariants.{Damaged, NoMemory}

-- what is hashed before the bytes of a blob of this size
abbrev pub hash_head : ℕ → List ℕ
hash_head size = codes "blob " ++ decimal size ++ 0 ∷ []

-- the name of the blob that has these bytes
abbrev pub blob_name : List ℕ → List ℕ
blob_name bytes = sha1 (hash_head (length bytes) ++ bytes)

-- these are the bytes of the object with this name, which has this size
pub record IsBlobOf (object : List ℕ) (size : ℕ) (bytes : List ℕ) : Type 0 where
  pub is_named : blob_name bytes ≡ object
  pub is_whole : length bytes ≡ size

-- the bytes, where they are in memory; those of a file are unknown
abbrev pub known_bytes : Content → Option (List ℕ)
known_bytes (InMemory bytes) = Some bytes.value.items
known_bytes (InFile file) = None

-- whether the bytes are in a file
abbrev pub is_in_file : Content → Bool
is_in_file (InMemory bytes) = false
is_in_file (InFile file) = true

-- why bytes are no blob of this object: they have another name, or memory was refused
abbrev pub IsNoBlob : List ℕ → List ℕ → ObjectFault → Type 0
IsNoBlob object bytes Damaged = blob_name bytes ≡ object → ⊥
IsNoBlob object bytes NoMemory = ⊤
IsNoBlob object bytes fault = ⊥

-- the two have the same bytes: the same ones in memory, or the same file
abbrev pub IsSame : Content → Content → Type 0
IsSame (InMemory one) (InMemory other) = one.value ≡ other.value
IsSame (InFile one) (InFile other) = one.value ≡ other.value
IsSame _ _ = ⊥

-- so many bytes are told; of those in memory the ones from this offset on
abbrev pub HasPart : Content → ℕ → ℕ → List ℕ → Type 0
HasPart (InMemory bytes) offset len part = (part ≡ range_of offset len bytes.value.items) × (length part ≡ len)
HasPart (InFile file) offset len part = length part ≡ len
