-- The header of a kernel's request (linux/fuse.h: fuse_in_header), in 40 bytes: len, opcode, unique, nodeid, and 16 more.
use Rattle.std.specs.Prelude.{ℕ, ◌==◌, nat_lt, List, length, drop, Result, Ok, Err, if◌then◌else◌}
use Rattle.byte_codec.specs.Reading.{◌>>=◌}
use Rattle.fuse_wire.specs.Field.{u32_at, u64_at}
use Rattle.mount_wire.specs.declared.fault.KernelMessageFault.{KernelMessageFault}
use Rattle.mount_wire.specs.declared.fault.KernelMessageFault.TheVariants.{Short, BadLength, BadOpcode}
use Rattle.mount_wire.specs.declared.header.RequestHeader.{RequestHeader}

-- what follows the header
abbrev pub behind_header : List ℕ → List ℕ
behind_header bytes = drop 40 bytes

-- the opcode and the unique of a header
abbrev pub fields_of : List ℕ → RequestHeader
fields_of bytes = record { opcode = u32_at (drop 4 bytes); unique = u64_at (drop 8 bytes) }

-- the header of bytes that are as long as it tells, or the first fault
unfoldable pub header_of : List ℕ → Result RequestHeader KernelMessageFault
header_of bytes =
    if nat_lt (length bytes) 40 then Err Short
    else if u32_at bytes == length bytes then Ok (fields_of bytes)
    else Err BadLength

-- the unique of this header if it has this opcode, else BadOpcode
abbrev pub unique_if : ℕ → RequestHeader → Result ℕ KernelMessageFault
unique_if opcode header = if header.opcode == opcode then Ok header.unique else Err BadOpcode

-- the unique of a request with this opcode, or the first fault
unfoldable pub unique_of : ℕ → List ℕ → Result ℕ KernelMessageFault
unique_of opcode bytes = header_of bytes >>= unique_if opcode
