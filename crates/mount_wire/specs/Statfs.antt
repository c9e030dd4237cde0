-- The reply to STATFS (linux/fuse.h: fuse_kstatfs). A checkout tells how long a name may be, and counts neither blocks
-- nor files.
use Rattle.std.specs.Prelude.{ℕ, pos, List, ◌++◌}
use Rattle.fuse_wire.specs.Field.{u32_bytes, zeros}
use Rattle.fuse_wire.specs.ReplyText.{reply_header}

-- blocks, bfree, bavail, files and ffree, in eight bytes each; bsize, namelen, frsize; a padding and six spare fields
abbrev pub kstatfs : List ℕ
kstatfs = zeros 40 ++ u32_bytes 4096 ++ u32_bytes 255 ++ u32_bytes 4096 ++ zeros 28

-- the reply with this unique
abbrev pub statfs_reply_text : ℕ → List ℕ
statfs_reply_text unique = reply_header 96 (pos 0) unique ++ kstatfs
