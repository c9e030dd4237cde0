use Rattle.std.proofs.Common.{◌≡◌, drop}
use Rattle.directory_index.specs.Keys.{key_with_all}
use Rattle.directory_index.proofs.key.key_with_each.Given as goal

-- the bytes that are left make of the key so far what all bytes make of the first
abbrev pub invariant-loop-byte : goal.invariant-loop-byte
invariant-loop-byte l = key_with_all l.key (drop l.byte-index l.bytes) ≡ key_with_all l.fn.key l.bytes
