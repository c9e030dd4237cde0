-- How a reply is read. The fields that vary are read, at offsets that depend on the length of the whole. The bytes are
-- then compared with the text of the reply that has these fields (linux/fuse.h: fuse_out_header, and the struct of each
-- answer).
use Rattle.std.specs.Prelude.{Bool, ◌&&◌, ℕ, zero, suc, ◌==◌, nat_lt, ℤ, pos, negsuc, List, length, drop, Option, Some, None, Result, Ok, Err, if◌then◌else◌}
use Rattle.std.specs.Str.{bytes_eq}
use Rattle.eden_base.specs.declared.attr.Attr.{Attr}
use Rattle.eden_base.specs.declared.attr.Kind.{Kind}
use Rattle.eden_base.specs.declared.attr.Kind.TheVariants.{File, Dir, Link}
use Rattle.eden_base.specs.declared.errno.Errno.{Errno}
use Rattle.eden_base.specs.declared.errno.Errno.TheVariants.{ENOENT, EIO, ENOMEM, EEXIST, ENOTDIR, EISDIR, EINVAL, ENOSPC, ENAMETOOLONG, ENOSYS, ENOTEMPTY, EOVERFLOW, ESTALE}
use Rattle.eden_base.specs.declared.number.Number.{Number}
use Rattle.fuse_wire.specs.declared.fault.WireFault.{WireFault}
use Rattle.fuse_wire.specs.declared.fault.WireFault.TheVariants.{Short, BadLength, BadBody}
use Rattle.fuse_wire.specs.declared.form.Form.{Form}
use Rattle.fuse_wire.specs.declared.form.Form.TheVariants.{ABuffer, FileBytes}
use Rattle.fuse_wire.specs.declared.reply.Answer.{Answer}
use Rattle.fuse_wire.specs.declared.reply.Answer.TheVariants.{Entry, Opened, Attrs, Done, Buffer, Error}
use Rattle.fuse_wire.specs.declared.reply.Reply.{Reply}
use Rattle.fuse_wire.specs.Field.{i32_at, u32_at, u64_at}
use Rattle.fuse_wire.specs.Mode.{S_IFREG, S_IFLNK, perm_of}
use Rattle.fuse_wire.specs.ReplyText.{reply_text}

-- the error with this number, if there is one
abbrev pub errno_numbered : ℕ → Option Errno
errno_numbered n =
    if n == 2 then Some ENOENT
    else if n == 5 then Some EIO
    else if n == 12 then Some ENOMEM
    else if n == 17 then Some EEXIST
    else if n == 20 then Some ENOTDIR
    else if n == 21 then Some EISDIR
    else if n == 22 then Some EINVAL
    else if n == 28 then Some ENOSPC
    else if n == 36 then Some ENAMETOOLONG
    else if n == 38 then Some ENOSYS
    else if n == 39 then Some ENOTEMPTY
    else if n == 75 then Some EOVERFLOW
    else if n == 116 then Some ESTALE
    else None

-- the kind of a regular file's, a directory's or a symbolic link's mode; no other mode is in the text of a reply
abbrev pub kind_of : ℕ → Kind
kind_of mode =
    if nat_lt mode S_IFREG then Dir
    else if nat_lt mode S_IFLNK then File
    else Link

-- the number in the bytes of attributes, in which ino is at 0, size at 8, mode at 60, nlink at 64
abbrev pub number_at : List ℕ → Number
number_at bytes = record { 0 = u64_at bytes }

-- the attributes in such bytes, but for the number
unfoldable pub attr_at : List ℕ → Attr
attr_at bytes = record {
  kind = kind_of (u32_at (drop 60 bytes));
  perm = perm_of (u32_at (drop 60 bytes));
  size = u64_at (drop 8 bytes);
  nlink = u32_at (drop 64 bytes);
}

-- the answer in a reply of this length without an error, if any; attributes alone are at 32, those of an entry at 56
abbrev pub success_at : ℕ → List ℕ → Option Answer
success_at len bytes =
    if len == 16 then Some Done
    else if len == 120 then Some (Attrs (number_at (drop 32 bytes)) (attr_at (drop 32 bytes)))
    else if len == 144 then Some (Entry (number_at (drop 56 bytes)) (attr_at (drop 56 bytes)))
    else if len == 160 then Some (Opened (number_at (drop 56 bytes)) (attr_at (drop 56 bytes)))
    else None

-- the error of an error field, if the field is a negative error number
abbrev pub errno_of : ℤ → Option Errno
errno_of (pos n) = None
errno_of (negsuc n) = errno_numbered (suc n)

-- the answer that is this error, if there is one
abbrev pub failure_of : Option Errno → Option Answer
failure_of (Some errno) = Some (Error errno)
failure_of None = None

-- the only answer that a reply with this error field and these bytes can have, if there is one
unfoldable pub answer_at : ℤ → List ℕ → Option Answer
answer_at (pos zero) bytes = success_at (length bytes) bytes
answer_at error bytes = failure_of (errno_of error)

-- this reply if the bytes are its text, else BadBody
abbrev pub if_spelled : Reply → List ℕ → Result Reply WireFault
if_spelled reply bytes = if bytes_eq bytes (reply_text reply) then Ok reply else Err BadBody

-- the reply with this unique and this answer if there is one and the bytes are its text, else BadBody
abbrev pub reply_with : ℕ → Option Answer → List ℕ → Result Reply WireFault
reply_with unique (Some answer) bytes = if_spelled (record { unique = unique; answer = answer }) bytes
reply_with unique None bytes = Err BadBody

-- the reply that the bytes are, or their first fault
unfoldable pub reply_of : List ℕ → Result Reply WireFault
reply_of bytes =
    if nat_lt (length bytes) 16 then Err Short
    else if u32_at bytes == length bytes
    then reply_with (u64_at (drop 8 bytes)) (answer_at (i32_at (drop 4 bytes)) bytes) bytes
    else Err BadLength

-- the unique of bytes with a whole header
abbrev pub unique_in : List ℕ → Option ℕ
unique_in bytes = if nat_lt (length bytes) 16 then None else Some (u64_at (drop 8 bytes))

-- the bytes are a reply with any bytes behind its header: the header is whole, and has their length and no error; and
-- they are no more than a frame has
abbrev pub is_success : List ℕ → Bool
is_success bytes =
    nat_lt 15 (length bytes) && nat_lt (length bytes) 65529 && (u32_at bytes == length bytes) && (u32_at (drop 4 bytes) == 0)

-- the reply that the bytes are where a buffer was asked for, or their first fault
abbrev pub buffer_reply_of : List ℕ → Result Reply WireFault
buffer_reply_of bytes =
    if is_success bytes then Ok (record { unique = u64_at (drop 8 bytes); answer = Buffer (drop 16 bytes) })
    else reply_of bytes

-- the reply that the bytes are to an ask of this form, if there is such an ask, or their first fault
abbrev pub reply_to : Option Form → List ℕ → Result Reply WireFault
reply_to (Some ABuffer) bytes = buffer_reply_of bytes
reply_to (Some FileBytes) bytes = buffer_reply_of bytes
reply_to form bytes = reply_of bytes

-- a fault that reading a reply may have
abbrev pub IsReplyFault : WireFault → Type 0
IsReplyFault Short = Unit {0}
IsReplyFault BadLength = Unit {0}
IsReplyFault BadBody = Unit {0}
IsReplyFault fault = ⊥
