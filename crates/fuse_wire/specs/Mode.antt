-- The mode of a file (inode(7)): the permissions are its low twelve bits, and the bits above say what the file is.
use Rattle.std.specs.Prelude.{◌≤◌, ℕ, ◌+◌, ◌%◌, ◌^◌}
use Rattle.std.proofs.Common.{arith}
use Rattle.eden_base.specs.declared.attr.Kind.{Kind}
use Rattle.eden_base.specs.declared.attr.Kind.TheVariants.{File, Dir, Link}
use Rattle.eden_base.specs.declared.attr.Perm.{Perm}

-- the low twelve bits are at most 4095
pub low_bits : (mode : ℕ) → mode % 4096 ≤ 4095
low_bits mode = omega arith

-- the permissions of a mode
abbrev pub perm_of : ℕ → Perm
perm_of mode = record { bits = mode % 4096; in_range = low_bits mode }

-- the type bits of a regular file, 0o100000 (sys/stat.h)
abbrev pub S_IFREG : ℕ
S_IFREG = 2 ^ 15

-- the type bits of a directory, 0o040000
abbrev pub S_IFDIR : ℕ
S_IFDIR = 2 ^ 14

-- the type bits of a symbolic link, 0o120000
abbrev pub S_IFLNK : ℕ
S_IFLNK = 2 ^ 15 + 2 ^ 13

-- the type bits of a kind
abbrev pub type_bits : Kind → ℕ
type_bits File = S_IFREG
type_bits Dir = S_IFDIR
type_bits Link = S_IFLNK
