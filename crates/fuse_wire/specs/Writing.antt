-- Bytes written into a message, one field after the other.
use Rattle.std.specs.Prelude.{◌≡◌, ◌≤◌, ℕ, ◌+◌, List, ◌++◌, length, take, drop}
use Rattle.fuse_wire.specs.declared.writer.MessageWriter.{MessageWriter}

-- `new` is `old` with these bytes from offset `at` on; the other bytes are unchanged
abbrev pub Writes : List ℕ → List ℕ → ℕ → List ℕ → Type 0
Writes old new at bytes = new ≡ (take at old ++ bytes) ++ drop (at + length bytes) old

-- the message has room for this count of bytes from the next field's offset on
abbrev pub HasRoom : MessageWriter → ℕ → Type 0
HasRoom writer count = writer.at + count ≤ length writer.bytes.now

-- these bytes are written into the same message, and the next field comes after them
pub record Puts (old new : MessageWriter) (bytes : List ℕ) : Type 0 where
  pub same : new.bytes.ghost_name ≡ old.bytes.ghost_name
  pub field : Writes old.bytes.now new.bytes.now old.at bytes
  pub after : new.at ≡ old.at + length bytes
  pub len : length new.bytes.now ≡ length old.bytes.now
