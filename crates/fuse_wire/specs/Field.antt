-- Numbers as the structs of linux/fuse.h hold them on a machine that is little endian: the lowest byte first.
use Rattle.std.specs.Prelude.{ℕ, ℤ, List, replicate}
use Rattle.std.specs.Int.{w32, cast_unsigned, cast_signed}
use Rattle.byteorder.specs.Endian.{little_bytes, little_number}

-- this count of bytes that are 0
unfoldable pub zeros : ℕ → List ℕ
zeros n = replicate n 0

-- a number in four bytes, and a number in eight
unfoldable pub u32_bytes : ℕ → List ℕ
u32_bytes n = little_bytes 4 n

unfoldable pub u64_bytes : ℕ → List ℕ
u64_bytes n = little_bytes 8 n

-- the number in the first four bytes, and in the first eight
unfoldable pub u32_at : List ℕ → ℕ
u32_at bytes = little_number 4 bytes

unfoldable pub u64_at : List ℕ → ℕ
u64_at bytes = little_number 8 bytes

-- a signed number of four bytes, in two's complement
unfoldable pub i32_bytes : ℤ → List ℕ
i32_bytes n = u32_bytes (cast_unsigned w32 n)

-- the signed number in the first four bytes
unfoldable pub i32_at : List ℕ → ℤ
i32_at bytes = cast_signed w32 (u32_at bytes)
