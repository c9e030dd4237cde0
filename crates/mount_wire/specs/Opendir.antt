-- The replies to OPENDIR and RELEASEDIR (linux/fuse.h: fuse_open_out). A directory is opened without a number of its own.
-- Its flags let the kernel keep what it reads of the directory. It uses what it kept once a listing came to its end, which
-- `Told` says of each one (fs/fuse/readdir.c of Linux).
use Rattle.std.specs.Prelude.{ℕ, ◌^◌, pos, List, ◌++◌}
use Rattle.std.specs.Int.Bits.{bit_or}
use Rattle.fuse_wire.specs.Field.{u32_bytes, u64_bytes, zeros}
use Rattle.fuse_wire.specs.ReplyText.{reply_header}

-- the flag FOPEN_KEEP_CACHE: what was kept of the directory before stays
abbrev pub KEEP_CACHE : ℕ
KEEP_CACHE = 2 ^ 1

-- the flag FOPEN_CACHE_DIR: what is read of the directory is kept
abbrev pub CACHE_DIR : ℕ
CACHE_DIR = 2 ^ 3

-- fh, in eight bytes; open_flags and a padding, in four each
abbrev pub open_out : List ℕ
open_out = u64_bytes 0 ++ u32_bytes (bit_or KEEP_CACHE CACHE_DIR) ++ zeros 4

-- the reply to an OPENDIR with this unique
abbrev pub opendir_reply_text : ℕ → List ℕ
opendir_reply_text unique = reply_header 32 (pos 0) unique ++ open_out

-- the reply to a RELEASEDIR with this unique: a header alone
abbrev pub releasedir_reply_text : ℕ → List ℕ
releasedir_reply_text unique = reply_header 16 (pos 0) unique
