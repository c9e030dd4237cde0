-- Bytes of their own, or a range of a text that several share. (This project's own.)
use Rattle.std.specs.Prelude.{ℕ, List, take, drop}
use Rattle.byte_codec.specs.declared.storage.Storage.{Storage}
use Rattle.byte_codec.specs.declared.storage.Storage.TheVariants.{Own, Shared}

-- the bytes of a text in a range: as many as `len`, from an index on
abbrev pub range_of : (from len : ℕ) → List ℕ → List ℕ
range_of from len text = take len (drop from text)

-- the bytes that stand in this memory
abbrev pub bytes_of : Storage → List ℕ
bytes_of (Own range) = drop range.from range.bytes.items
bytes_of (Shared range) = range_of range.from range.len range.text.value.items
