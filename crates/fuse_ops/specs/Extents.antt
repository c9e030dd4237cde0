-- Which bytes of a file are read. A READ is for as many as are asked for, or fewer where the file ends (read(2)); a READLINK
-- is for the whole target of a symbolic link (readlink(2)), which is the link's content. How many may be asked for at once
-- is this project's own.
use Rattle.std.specs.Prelude.{ℕ, ◌-◌, min, nat_lt, List, take, drop, Option, Some, None, if◌then◌else◌}
use Rattle.eden_base.specs.declared.attr.Kind.{Kind}
use Rattle.eden_base.specs.declared.attr.Kind.TheVariants.{Dir, File, Link}
use Rattle.eden_base.specs.declared.errno.Errno.{Errno}
use Rattle.eden_base.specs.declared.errno.Errno.TheVariants.{EISDIR, EINVAL, ENAMETOOLONG}
use Rattle.eden_base.specs.declared.number.FileId.{FileId}
use Rattle.fuse_wire.specs.declared.reply.Extent.{Extent}

-- what is read of a file: its bytes from an offset on, as many as are asked for; or the whole target of a link
pub data Reading : Type 0 where
  bytes_from : (offset size : ℕ) → Reading
  whole_target : Reading

-- the most bytes that a READ may ask for, which is as many as an answer has at most
abbrev pub most_read : ℕ
most_read = 65512

-- the most bytes of a target: a path and its NUL have 4,096 at most (linux/limits.h: PATH_MAX)
abbrev pub most_target : ℕ
most_target = 4095

-- the part of a file with `file_size` bytes from an offset on: `size` bytes, or those up to the end of the file
abbrev pub extent_of : FileId → ℕ → ℕ → ℕ → Extent
extent_of file file_size offset size = record { file = file; offset = offset; len = min size (file_size - offset) }

-- the extent of a file with `file_size` bytes that is read
abbrev pub extent_read : FileId → ℕ → Reading → Extent
extent_read file file_size (bytes_from offset size) = extent_of file file_size offset size
extent_read file file_size whole_target = record { file = file; offset = 0; len = file_size }

-- why a file of a kind, with `file_size` bytes, is not read so: the first fault, if there is one
abbrev pub against_reading : Reading → Kind → ℕ → Option Errno
against_reading (bytes_from offset size) Dir file_size = Some EISDIR
against_reading (bytes_from offset size) Link file_size = Some EINVAL
against_reading (bytes_from offset size) File file_size = if nat_lt most_read size then Some EINVAL else None
against_reading whole_target Dir file_size = Some EINVAL
against_reading whole_target File file_size = Some EINVAL
against_reading whole_target Link file_size = if nat_lt most_target file_size then Some ENAMETOOLONG else None

-- the bytes of an extent, where `blobs` says which bytes each file has
abbrev pub bytes_of : (FileId → List ℕ) → Extent → List ℕ
bytes_of blobs extent = take extent.len (drop extent.offset (blobs extent.file))

-- what a reading of a file with these bytes gives
abbrev pub bytes_read : Reading → List ℕ → List ℕ
bytes_read (bytes_from offset size) bytes = take size (drop offset bytes)
bytes_read whole_target bytes = bytes
