-- The error field of a reply, written and read again.
use Rattle.std.proofs.Common.{◌≡◌, ℕ, ◌≤◌, pos, neg_ℤ, FitsSigned, List, Some, refl, arith}
use Rattle.std.specs.Int.{w32}
use Rattle.std.proofs.lemmas.Int.{ints}
use Rattle.eden_base.specs.declared.errno.Errno.{Errno}
use Rattle.eden_base.specs.declared.errno.Errno.TheVariants.{ENOENT, EIO, ENOMEM, EEXIST, ENOTDIR, EISDIR, EINVAL, ENOSPC, ENAMETOOLONG, ENOSYS, ENOTEMPTY, EOVERFLOW, ESTALE}
use Rattle.fuse_wire.specs.declared.reply.Answer.{Answer}
use Rattle.fuse_wire.specs.declared.reply.Answer.TheVariants.{Entry, Opened, Attrs, Done, Buffer, Extent, Error}
use Rattle.fuse_wire.specs.ReplyReading.{answer_at}
use Rattle.fuse_wire.specs.ReplyText.{errno_number, error_field}

errno_at_most : (errno : Errno) → errno_number errno ≤ 116
errno_at_most ENOENT = omega arith
errno_at_most EIO = omega arith
errno_at_most ENOMEM = omega arith
errno_at_most EEXIST = omega arith
errno_at_most ENOTDIR = omega arith
errno_at_most EISDIR = omega arith
errno_at_most EINVAL = omega arith
errno_at_most ENOSPC = omega arith
errno_at_most ENAMETOOLONG = omega arith
errno_at_most ENOSYS = omega arith
errno_at_most ENOTEMPTY = omega arith
errno_at_most EOVERFLOW = omega arith
errno_at_most ESTALE = omega arith

negative_fits : (n : ℕ) → n ≤ 116 → FitsSigned w32 (neg_ℤ (pos n))
negative_fits n le = omega (arith, ints)

pub error_fits : (answer : Answer) → FitsSigned w32 (error_field answer)
error_fits (Entry number attr) = negative_fits 0 (omega arith)
error_fits (Opened number attr) = negative_fits 0 (omega arith)
error_fits (Attrs number attr) = negative_fits 0 (omega arith)
error_fits Done = negative_fits 0 (omega arith)
error_fits (Buffer bytes) = negative_fits 0 (omega arith)
error_fits (Extent extent) = negative_fits 5 (omega arith)
error_fits (Error errno) = negative_fits (errno_number errno) (errno_at_most errno)

pub failure_is : (errno : Errno) (bytes : List ℕ) → answer_at (error_field (Error errno)) bytes ≡ Some (Error errno)
unfolding answer_at
failure_is ENOENT bytes = refl
failure_is EIO bytes = refl
failure_is ENOMEM bytes = refl
failure_is EEXIST bytes = refl
failure_is ENOTDIR bytes = refl
failure_is EISDIR bytes = refl
failure_is EINVAL bytes = refl
failure_is ENOSPC bytes = refl
failure_is ENAMETOOLONG bytes = refl
failure_is ENOSYS bytes = refl
failure_is ENOTEMPTY bytes = refl
failure_is EOVERFLOW bytes = refl
failure_is ESTALE bytes = refl
