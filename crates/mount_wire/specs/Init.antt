-- INIT: what a kernel offers, what is agreed to, and the reply that tells it (linux/fuse.h: fuse_init_in, fuse_init_out,
-- and what is said there of how the two sides agree on a version). How many bytes a READ may ask for is no field of it: an
-- option of the mount says that (max_read).
use Rattle.std.specs.Prelude.{ℕ, ◌+◌, ◌^◌, min, ◌||◌, nat_lt, pos, neg_ℤ, List, [], ◌++◌, length, drop, Result, Ok, Err, if◌then◌else◌}
use Rattle.std.specs.Int.Bits.{bit_and, bit_or}
use Rattle.byte_codec.specs.Reading.{◌>>=◌}
use Rattle.fuse_wire.specs.Field.{u32_at, u32_bytes, zeros}
use Rattle.fuse_wire.specs.ReplyText.{reply_header}
use Rattle.mount_wire.specs.declared.agreement.Agreement.{Agreement}
use Rattle.mount_wire.specs.declared.agreement.Agreement.TheVariants.{Version, MajorAlone}
use Rattle.mount_wire.specs.declared.fault.KernelMessageFault.{KernelMessageFault}
use Rattle.mount_wire.specs.declared.fault.KernelMessageFault.TheVariants.{BadBody, TooOld}
use Rattle.mount_wire.specs.declared.offer.Offer.{Offer}
use Rattle.mount_wire.specs.Header.{behind_header, unique_of}

-- ---- what a kernel offers

-- the offer in the body of an INIT with this unique: major, minor, max_readahead and flags, in four bytes each
unfoldable pub offer_in : ℕ → List ℕ → Result Offer KernelMessageFault
offer_in unique body =
    if nat_lt (length body) 16 then Err BadBody
    else Ok (record {
      unique = unique;
      major = u32_at body;
      minor = u32_at (drop 4 body);
      max_readahead = u32_at (drop 8 body);
      flags = u32_at (drop 12 body);
    })

-- the offer of the INIT that the bytes are, or their first fault; 26 is the opcode of INIT
unfoldable pub offer_of : List ℕ → Result Offer KernelMessageFault
offer_of bytes = unique_of 26 bytes >>= λ unique. offer_in unique (behind_header bytes)

-- ---- what is agreed to

-- the flag FUSE_ASYNC_READ
abbrev pub ASYNC_READ : ℕ
ASYNC_READ = 2 ^ 0

-- the flag FUSE_PARALLEL_DIROPS
abbrev pub PARALLEL_DIROPS : ℕ
PARALLEL_DIROPS = 2 ^ 18

-- the flag FUSE_CACHE_SYMLINKS
abbrev pub CACHE_SYMLINKS : ℕ
CACHE_SYMLINKS = 2 ^ 23

-- the flags that are taken; no link here ever has another target, so the kernel may keep one that it read
abbrev pub TAKEN : ℕ
TAKEN = bit_or (bit_or ASYNC_READ PARALLEL_DIROPS) CACHE_SYMLINKS

-- an offer of version 7: its minor version, but at most 31; its read-ahead; and of its flags those that are taken
abbrev pub version_of : Offer → Agreement
version_of offer =
    Version (min offer.minor 31) offer.max_readahead (bit_and offer.flags TAKEN)

-- what is agreed to: major version 7 alone if the kernel's is later, nothing if its version is below 7.12
unfoldable pub agreement_of : Offer → Result Agreement KernelMessageFault
agreement_of offer =
    if nat_lt 7 offer.major then Ok MajorAlone
    else if nat_lt offer.major 7 || nat_lt offer.minor 12 then Err TooOld
    else Ok (version_of offer)

-- ---- the reply

-- the fields that a kernel reads from 7.23 on: time_gran is 1; max_pages, map_alignment, flags2 and 28 more bytes are 0
abbrev pub later_fields : ℕ → List ℕ
later_fields minor = if nat_lt minor 23 then [] else u32_bytes 1 ++ zeros 36

-- major, minor, max_readahead, flags; max_background and congestion_threshold, which are 0; max_write; the later fields.
-- Beside major version 7 alone all is 0
abbrev pub init_out : Agreement → List ℕ
init_out (Version minor max_readahead flags) =
    u32_bytes 7 ++ u32_bytes minor ++ u32_bytes max_readahead ++ u32_bytes flags ++ zeros 4 ++ u32_bytes 4096 ++ later_fields minor
init_out MajorAlone = u32_bytes 7 ++ zeros 60

-- the reply with this unique: what was agreed to, or else the error EPROTO, which is 71
abbrev pub init_reply_text : ℕ → Result Agreement KernelMessageFault → List ℕ
init_reply_text unique (Ok agreement) = reply_header (16 + length (init_out agreement)) (pos 0) unique ++ init_out agreement
init_reply_text unique (Err fault) = reply_header 16 (neg_ℤ (pos 71)) unique
