-- Texts that are put one after the other, and their lengths.
use Rattle.std.proofs.Common.{◌≡◌, ℕ, ◌≤◌, take, length, append_assoc, length-append, refl, arith}
use Rattle.std.proofs.lemmas.List.{take-replicate, append-nil}
use Rattle.std.specs.Prelude.{replicate}
use Rattle.fuse_wire.proofs.Lengths.{length-u32_bytes, length-i32_bytes, length-u64_bytes, length-zeros}

pub ruleset texts = (append_assoc, append-nil, length-append, length-u32_bytes, length-i32_bytes, length-u64_bytes, length-zeros)

-- the first of 104 zero bytes
pub zeros_in_zeros : (count : ℕ) → count ≤ 104 → take {A = ℕ} count (replicate 104 0) ≡ replicate count 0
zeros_in_zeros count le = take-replicate count 104 0 le
