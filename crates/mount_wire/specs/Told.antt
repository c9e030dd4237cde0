-- A daemon's answer as the kernel is told it. A daemon tells neither blocks nor times nor an owner, nor how long the kernel
-- may keep what it is told. These stand as zeros in its reply, and the program that mounts puts them in (linux/fuse.h:
-- fuse_entry_out, fuse_attr_out, fuse_attr). It also says what the kernel may keep of what is not there, and of a listing.
use Rattle.std.specs.Prelude.{ℕ, ◌+◌, ◌==◌, ◌&&◌, nat_lt, pos, Bool, true, false, List, ◌++◌, length, take, drop, Option, Some, None, if◌then◌else◌}
use Rattle.std.specs.Int.{div_ceil}
use Rattle.eden_base.specs.declared.errno.Errno.{Errno}
use Rattle.eden_base.specs.declared.errno.Errno.TheVariants.{ENOENT}
use Rattle.fuse_wire.specs.declared.reply.Answer.{Answer}
use Rattle.fuse_wire.specs.declared.reply.Answer.TheVariants.{Entry, Opened, Attrs, Buffer, Error}
use Rattle.fuse_wire.specs.Field.{u32_bytes, u64_bytes, zeros}
use Rattle.fuse_wire.specs.ReplyText.{reply_header, reply_text}
use Rattle.mount_wire.specs.declared.kept.Kept.{Kept}
use Rattle.mount_wire.specs.declared.kept.Kept.TheVariants.{Told, Absence, Listing, NoListing}
use Rattle.mount_wire.specs.declared.mount_reply.ReplyKind.{ReplyKind}
use Rattle.mount_wire.specs.declared.mount_reply.ReplyKind.TheVariants.{Short, Long}
use Rattle.mount_wire.specs.declared.told_answer.FileOwner.{FileOwner}
use Rattle.mount_wire.specs.declared.told_answer.MountAttributes.{MountAttributes}
use Rattle.mount_wire.specs.declared.told_answer.MountTime.{MountTime}
use Rattle.mount_wire.specs.declared.told_answer.Shown.{Shown}

-- how many blocks of 512 bytes a file of this size has
abbrev pub blocks : ℕ → ℕ
blocks size = div_ceil size 512

-- atime, mtime and ctime, and then their nanoseconds
abbrev pub times : MountTime → List ℕ
times since =
    u64_bytes since.seconds ++ u64_bytes since.seconds ++ u64_bytes since.seconds
    ++ u32_bytes since.nanoseconds ++ u32_bytes since.nanoseconds ++ u32_bytes since.nanoseconds

-- the 44 bytes that are put in: the blocks and the times
abbrev pub filled : ℕ → MountTime → List ℕ
filled size since = u64_bytes (blocks size) ++ times since

-- the 8 bytes of an owner: uid and gid
abbrev pub owner_text : FileOwner → List ℕ
owner_text owner = u32_bytes owner.user ++ u32_bytes owner.group

-- how many seconds the kernel may keep what it is told: the entry, if there is one, and the attributes (entry_valid,
-- attr_valid)
abbrev pub validity : Bool → ℕ → List ℕ
validity true seconds = u64_bytes seconds ++ u64_bytes seconds
validity false seconds = u64_bytes seconds

-- the offset of these seconds in a reply: behind the header, the entry's number and its generation; or behind the header
abbrev pub validity_at : Bool → ℕ
validity_at true = 32
validity_at false = 16

-- how many bytes they have
abbrev pub validity_len : Bool → ℕ
validity_len true = 16
validity_len false = 8

-- the offset of the blocks in a reply: behind the seconds, their nanoseconds, ino and size, which are 24 bytes
abbrev pub blocks_at : Bool → ℕ
blocks_at true = 72
blocks_at false = 48

-- the attributes in a reply with this answer, and whether an entry stands before them
abbrev pub attributes_told : Answer → Option Shown
attributes_told (Entry number attr) = Some (record { has_entry = true; size = attr.size })
attributes_told (Opened number attr) = Some (record { has_entry = true; size = attr.size })
attributes_told (Attrs number attr) = Some (record { has_entry = false; size = attr.size })
attributes_told answer = None

-- what stands before the blocks of a reply's text, once it says how long the kernel may keep what it is told
abbrev pub front_told : List ℕ → Bool → ℕ → List ℕ
front_told text has_entry seconds =
    take (validity_at has_entry) text ++ validity has_entry seconds
    ++ take 24 (drop (validity_at has_entry + validity_len has_entry) text)

-- a reply's text, in which the blocks and the times are 44 bytes behind that, and the owner 8 bytes behind the mode and
-- the links
abbrev pub with_own : List ℕ → Shown → MountAttributes → List ℕ
with_own text shown own =
    front_told text shown.has_entry own.valid ++ filled shown.size own.since
    ++ take 8 (drop (blocks_at shown.has_entry + 44) text) ++ owner_text own.owner
    ++ drop (blocks_at shown.has_entry + 60) text

-- a reply's text with all of these, if it has attributes
abbrev pub completed : List ℕ → Option Shown → MountAttributes → List ℕ
completed text (Some shown) own = with_own text shown own
completed text None own = text

-- the text of the reply with this unique that tells an answer
abbrev pub told_text : ℕ → Answer → MountAttributes → List ℕ
told_text unique answer own =
    completed (reply_text (record { unique = unique; answer = answer })) (attributes_told answer) own

-- an answer says that a name is not there
abbrev pub is_absence : Answer → Bool
is_absence (Error ENOENT) = true
is_absence answer = false

-- the reply with this unique that a name is not there, which the kernel may keep for as many seconds: an entry of the number
-- 0 (linux/fuse.h: nodeid and entry_valid of fuse_entry_out; fuse_lookup_name in fs/fuse/dir.c of Linux)
abbrev pub absence_text : ℕ → ℕ → List ℕ
absence_text unique seconds = reply_header 144 (pos 0) unique ++ zeros 16 ++ u64_bytes seconds ++ zeros 104

-- an answer has no bytes, which is the end of a listing where a READDIR asked for more
abbrev pub is_end : Answer → Bool
is_end (Buffer bytes) = length bytes == 0
is_end answer = false

-- The reply with this unique that a listing is at its end, but is not to be kept: eight bytes, which is less than an entry
-- has. By a reply without bytes the kernel takes what it kept of the directory for the whole of it (fuse_readdir_uncached
-- and parse_dirfile in fs/fuse/readdir.c of Linux).
abbrev pub unkept_end_text : ℕ → List ℕ
unkept_end_text unique = reply_header 24 (pos 0) unique ++ zeros 8

-- the text of the reply with this unique that tells an answer, by what the kernel may keep of it; where nothing is valid it
-- may keep neither that a name is not there nor a listing
abbrev pub told_by : Kept → ℕ → Answer → MountAttributes → List ℕ
told_by Told unique answer own = told_text unique answer own
told_by Absence unique answer own =
    if nat_lt 0 own.valid && is_absence answer then absence_text unique own.valid else told_text unique answer own
told_by Listing unique answer own =
    if own.valid == 0 && is_end answer then unkept_end_text unique else told_text unique answer own
told_by NoListing unique answer own = if is_end answer then unkept_end_text unique else told_text unique answer own

-- the text of the reply with this unique that tells an error
abbrev pub error_text : ℕ → Errno → List ℕ
error_text unique errno = reply_text (record { unique = unique; answer = Error errno })

-- the bytes of a reply, wherever they stand
abbrev pub bytes_of : ReplyKind → List ℕ
bytes_of (Short bytes) = bytes
bytes_of (Long bytes) = bytes
