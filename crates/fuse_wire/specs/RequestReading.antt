-- What a request is read as, or its first fault: that of the header, or else that of the body, by the opcode.
use Rattle.std.specs.Prelude.{ℕ, ◌==◌, nat_lt, List, length, drop, Result, Ok, Err, if◌then◌else◌}
use Rattle.fuse_wire.specs.declared.fault.WireFault.{WireFault}
use Rattle.fuse_wire.specs.declared.fault.WireFault.TheVariants.{Short, BadLength}
use Rattle.fuse_wire.specs.declared.header.InHeader.{InHeader}
use Rattle.fuse_wire.specs.declared.request.Ask.{Ask}
use Rattle.fuse_wire.specs.declared.request.Request.{Request}
use Rattle.fuse_wire.specs.Field.{u32_at, u64_at}
use Rattle.byte_codec.specs.Reading.{◌>>=◌}
use Rattle.fuse_wire.specs.Request.{opcode_of}
use Rattle.fuse_wire.specs.RequestBody.{what_of, TakesMemory}

-- ---- the header: 40 bytes, of which the last 16 (uid, gid, pid, padding) are ignored

-- what follows the header
abbrev pub body_of : List ℕ → List ℕ
body_of bytes = drop 40 bytes

-- the fields of the header after the length
unfoldable pub fields_of : List ℕ → InHeader
fields_of bytes = record {
  opcode = u32_at (drop 4 bytes);
  unique = u64_at (drop 8 bytes);
  node = record { 0 = u64_at (drop 16 bytes) };
}

-- the header of bytes that are as long as the header tells, or the first fault
unfoldable pub header_of : List ℕ → Result InHeader WireFault
header_of bytes =
    if nat_lt (length bytes) 40 then Err Short
    else if u32_at bytes == length bytes then Ok (fields_of bytes)
    else Err BadLength

-- ---- whole messages

-- an ask of this request, with the unique of the header
abbrev pub asked : InHeader → Request → Ask
asked header what = record { unique = header.unique; what = what }

-- the ask with this header and this body, or the first fault
abbrev pub asked_of : InHeader → List ℕ → Result Ask WireFault
asked_of header body = what_of (opcode_of header.opcode) header.node body >>= λ what. Ok (asked header what)

-- the ask that the bytes are, or their first fault
unfoldable pub request_of : List ℕ → Result Ask WireFault
request_of bytes = header_of bytes >>= λ header. asked_of header (body_of bytes)

-- an ask takes memory if its request does
abbrev pub WantsMemory : Ask → Type 0
WantsMemory ask = TakesMemory ask.what
