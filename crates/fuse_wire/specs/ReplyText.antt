-- The bytes of a reply, of which no others are read (linux/fuse.h: fuse_out_header, fuse_entry_out, fuse_attr_out,
-- fuse_open_out, fuse_attr). What a daemon does not tell here (times, owners, how long an answer may be kept) is 0.
use Rattle.std.specs.Prelude.{◌<◌, ◌≤◌, ◌^◌, ℕ, ◌+◌, ℤ, pos, neg_ℤ, List, [], ◌++◌, length, Bool, true, false}
use Rattle.eden_base.specs.declared.attr.Attr.{Attr}
use Rattle.eden_base.specs.declared.errno.Errno.{Errno}
use Rattle.eden_base.specs.declared.errno.Errno.TheVariants.{ENOENT, EIO, ENOMEM, EEXIST, ENOTDIR, EISDIR, EINVAL, ENOSPC, ENAMETOOLONG, ENOSYS, ENOTEMPTY, EOVERFLOW, ESTALE}
use Rattle.eden_base.specs.declared.number.Number.{Number}
use Rattle.fuse_wire.specs.declared.reply.Answer.{Answer}
use Rattle.fuse_wire.specs.declared.reply.Answer.TheVariants.{Entry, Opened, Attrs, Done, Buffer, Extent, Error}
use Rattle.fuse_wire.specs.declared.reply.Reply.{Reply}
use Rattle.fuse_wire.specs.Field.{i32_bytes, u32_bytes, u64_bytes, zeros}
use Rattle.fuse_wire.specs.Mode.{type_bits}

-- the numbers of errno.h on Linux
abbrev pub errno_number : Errno → ℕ
errno_number ENOENT = 2
errno_number EIO = 5
errno_number ENOMEM = 12
errno_number EEXIST = 17
errno_number ENOTDIR = 20
errno_number EISDIR = 21
errno_number EINVAL = 22
errno_number ENOSPC = 28
errno_number ENAMETOOLONG = 36
errno_number ENOSYS = 38
errno_number ENOTEMPTY = 39
errno_number EOVERFLOW = 75
errno_number ESTALE = 116

-- the error field: 0, or the negative error number; an extent whose bytes were not fetched is told as EIO
abbrev pub error_field : Answer → ℤ
error_field (Error errno) = neg_ℤ (pos (errno_number errno))
error_field (Extent extent) = neg_ℤ (pos (errno_number EIO))
error_field answer = pos 0

-- the mode of a file
abbrev pub mode : Attr → ℕ
mode attr = type_bits attr.kind + attr.perm.bits

-- attributes: ino, size; blocks and three times, with nanoseconds; mode, nlink; uid, gid, rdev; blksize; flags
abbrev pub attributes : Number → Attr → List ℕ
attributes number attr =
    u64_bytes number.0 ++ u64_bytes attr.size ++ zeros 44 ++ u32_bytes (mode attr) ++ u32_bytes attr.nlink ++ zeros 12
    ++ u32_bytes 4096 ++ zeros 4

-- an entry: the nodeid; its generation and how long the entry and its attributes may be kept; the attributes
abbrev pub entry : Number → Attr → List ℕ
entry number attr = u64_bytes number.0 ++ zeros 32 ++ attributes number attr

-- what follows the header; an opened file's has a file handle and flags after the entry, and attributes alone have
-- before them how long they may be kept
abbrev pub payload : Answer → List ℕ
payload (Entry number attr) = entry number attr
payload (Opened number attr) = entry number attr ++ zeros 16
payload (Attrs number attr) = zeros 16 ++ attributes number attr
payload Done = []
payload (Buffer bytes) = bytes
payload (Extent extent) = []
payload (Error errno) = []

-- the header of a reply: the length of the whole, the error, the unique
abbrev pub reply_header : ℕ → ℤ → ℕ → List ℕ
reply_header len error unique = u32_bytes len ++ i32_bytes error ++ u64_bytes unique

-- a whole reply: its header, and what follows
abbrev pub reply_text : Reply → List ℕ
reply_text reply =
    reply_header (16 + length (payload reply.answer)) (error_field reply.answer) reply.unique ++ payload reply.answer

-- what stands behind the header in the head of a reply: all that follows, but for the bytes of a buffer
abbrev pub head_payload : Answer → List ℕ
head_payload (Buffer bytes) = []
head_payload answer = payload answer

-- the head of a reply: the whole of it, but for the bytes of a buffer
abbrev pub reply_head : Reply → List ℕ
reply_head reply =
    reply_header (16 + length (payload reply.answer)) (error_field reply.answer) reply.unique ++ head_payload reply.answer

-- the bytes behind the head of a reply: those of its buffer, if it has one
abbrev pub buffer_of : Answer → List ℕ
buffer_of (Buffer bytes) = bytes
buffer_of answer = []

-- the answer is a buffer
abbrev pub is_buffer : Answer → Bool
is_buffer (Buffer bytes) = true
is_buffer answer = false

-- the text of an answer tells which answer it is. That of a buffer does so only where a buffer was asked for, and an
-- extent has that of EIO.
abbrev pub is_fixed : Answer → Bool
is_fixed (Buffer bytes) = false
is_fixed (Extent extent) = false
is_fixed answer = true

-- a number and its attributes fit their fields
pub record FitsAttr (number : Number) (attr : Attr) : Type 0 where
  pub number_fits : number.0 < 2 ^ 64
  pub size_fits : attr.size < 2 ^ 64
  pub nlink_fits : attr.nlink < 2 ^ 32

-- the number and the attributes of an answer fit their fields
abbrev pub FitsAnswer : Answer → Type 0
FitsAnswer (Entry number attr) = FitsAttr number attr
FitsAnswer (Opened number attr) = FitsAttr number attr
FitsAnswer (Attrs number attr) = FitsAttr number attr
FitsAnswer answer = Unit {0}

-- the numbers and the attributes of a reply fit their fields, and its buffer a frame
abbrev pub FitsReply : Reply → Type 0
FitsReply reply = (reply.unique < 2 ^ 64) × (FitsAnswer reply.answer × (length (buffer_of reply.answer) ≤ 65512))
