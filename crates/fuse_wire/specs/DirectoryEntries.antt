-- The entries of a directory, as an answer to READDIR has them (linux/fuse.h: struct fuse_dirent): how they are
-- written, and what bytes are read as.
use Rattle.std.specs.Prelude.{◌≡◌, ◌<◌, ℕ, ◌+◌, ◌-◌, ◌*◌, ◌/◌, ◌^◌, ◌==◌, nat_lt, List, [], ◌∷◌, ◌++◌, length, take, drop, Option, Some, None, Result, Ok, Err, if◌then◌else◌}
use Rattle.std.specs.List.{flat_map}
use Rattle.std.specs.Str.{bytes_eq}
use Rattle.eden_base.specs.declared.attr.Kind.{Kind}
use Rattle.eden_base.specs.declared.attr.Kind.TheVariants.{File, Dir, Link}
use Rattle.eden_base.specs.declared.name.NameFault.{NameFault}
use Rattle.eden_base.specs.declared.name.NameFault.TheVariants.{Dots}
use Rattle.eden_base.specs.Name.{name_fault}
use Rattle.byte_codec.specs.Reading.{◌>>=◌}
use Rattle.fuse_wire.specs.declared.fault.WireFault.{WireFault}
use Rattle.fuse_wire.specs.declared.fault.WireFault.TheVariants.{Short, BadLength, BadBody}
use Rattle.fuse_wire.specs.Field.{zeros, u32_bytes, u64_bytes, u32_at, u64_at}
use Rattle.fuse_wire.specs.RequestBody.{checked}

-- an entry: its inode number (ino), the offset of the entry after it (off), its kind (type), its name
pub record Dirent : Type 0 where
  pub number : ℕ
  pub next : ℕ
  pub kind : Kind
  pub name : List ℕ

-- ---- names

-- a fault of a name, but `.` and `..` have none here: every directory lists itself and its parent (readdir(3))
abbrev pub unless_dots : Option NameFault → Option NameFault
unless_dots (Some Dots) = None
unless_dots fault = fault

-- why the bytes are no name of an entry: their first fault, or none if they are one
abbrev pub entry_name_fault : List ℕ → Option NameFault
entry_name_fault bytes = unless_dots (name_fault bytes)

-- the bytes are a name of an entry: 1 to 255 bytes without a slash and without a NUL
abbrev pub IsEntryName : List ℕ → Type 0
IsEntryName bytes = entry_name_fault bytes ≡ None

-- ---- as written

-- the types of a directory, of a regular file and of a symbolic link in an entry (dirent.h)
abbrev pub DT_DIR : ℕ
DT_DIR = 4

abbrev pub DT_REG : ℕ
DT_REG = 8

abbrev pub DT_LNK : ℕ
DT_LNK = 10

-- the type of a kind: the type bits of its mode, shifted to the right by twelve (dirent.h: IFTODT)
abbrev pub entry_type : Kind → ℕ
entry_type File = DT_REG
entry_type Dir = DT_DIR
entry_type Link = DT_LNK

-- a length made a multiple of 8 (FUSE_DIRENT_ALIGN)
abbrev pub aligned : ℕ → ℕ
aligned len = (len + 7) / 8 * 8

-- the length of an entry whose name has `namelen` bytes; 24 bytes stand before the name (FUSE_NAME_OFFSET,
-- FUSE_DIRENT_SIZE)
abbrev pub entry_len : ℕ → ℕ
entry_len namelen = aligned (24 + namelen)

-- how many bytes stand between such a name and the next entry
abbrev pub padding_len : ℕ → ℕ
padding_len namelen = entry_len namelen - (24 + namelen)

-- what stands before the name: ino, off, namelen, type
abbrev pub fixed_part : Dirent → List ℕ
fixed_part entry =
    u64_bytes entry.number ++ u64_bytes entry.next
    ++ u32_bytes (length entry.name) ++ u32_bytes (entry_type entry.kind)

-- an entry: the fixed part, the name, and zeros
abbrev pub entry_text : Dirent → List ℕ
entry_text entry = fixed_part entry ++ entry.name ++ zeros (padding_len (length entry.name))

-- entries: one after the other
abbrev pub entries_text : List Dirent → List ℕ
entries_text entries = flat_map entry_text entries

-- the numbers of an entry fit their fields, and its name is one
pub record FitsDirent (entry : Dirent) : Type 0 where
  pub number_fits : entry.number < 2 ^ 64
  pub next_fits : entry.next < 2 ^ 64
  pub is_name : IsEntryName entry.name

-- ---- what is read, or the first fault

-- the kind that has this type, if there is one
abbrev pub kind_typed : ℕ → Option Kind
kind_typed n =
    if n == DT_DIR then Some Dir
    else if n == DT_REG then Some File
    else if n == DT_LNK then Some Link
    else None

-- the length of the name, as the fixed part tells it
abbrev pub namelen_at : List ℕ → ℕ
namelen_at bytes = u32_at (drop 16 bytes)

-- the name of this length in front of the bytes, with zeros behind it, or the first fault
unfoldable pub name_in : ℕ → List ℕ → Result (List ℕ) WireFault
name_in namelen bytes =
    if bytes_eq (take (padding_len namelen) (drop namelen bytes)) (zeros (padding_len namelen))
    then checked (take namelen bytes) (entry_name_fault (take namelen bytes))
    else Err BadBody

-- the entry of this kind with the other fields that the bytes have, or the first fault
abbrev pub entry_of : Option Kind → List ℕ → Result Dirent WireFault
entry_of None bytes = Err BadBody
entry_of (Some kind) bytes =
    name_in (namelen_at bytes) (drop 24 bytes) >>= λ name.
    Ok (record { number = u64_at bytes; next = u64_at (drop 8 bytes); kind = kind; name = name })

-- the entry in front of the bytes, or the first fault
unfoldable pub entry_at : List ℕ → Result Dirent WireFault
entry_at bytes =
    if nat_lt (length bytes) 24 then Err Short
    else if nat_lt (length bytes) (entry_len (namelen_at bytes)) then Err BadLength
    else entry_of (kind_typed (u32_at (drop 20 bytes))) bytes

-- the entry in front of what is left, none if nothing is left, or the first fault
abbrev pub next_entry : List ℕ → Result (Option Dirent) WireFault
next_entry [] = Ok None
next_entry (byte ∷ rest) = entry_at (byte ∷ rest) >>= λ entry. Ok (Some entry)

-- the text of what was read: an entry's, or none where nothing was left
abbrev pub found_text : Option Dirent → List ℕ
found_text (Some entry) = entry_text entry
found_text None = []

-- ---- the entries of one answer

-- the bytes so far, and how many there may be at most
pub record Listed : Type 0 where
  pub bytes : List ℕ
  pub room : ℕ
