-- The reply to a request that was refused.
use Rattle.std.specs.Prelude.{ℕ, nat_lt, List, length, Option, Some, None, if◌then◌else◌}
use Rattle.eden_base.specs.declared.errno.Errno.{Errno}
use Rattle.eden_base.specs.declared.errno.Errno.TheVariants.{ENOMEM, EINVAL, ENAMETOOLONG}
use Rattle.eden_base.specs.declared.name.NameFault.TheVariants.{TooLong}
use Rattle.fuse_wire.specs.declared.fault.WireFault.{WireFault}
use Rattle.fuse_wire.specs.declared.fault.WireFault.TheVariants.{BadName, NoMemory}
use Rattle.fuse_wire.specs.declared.header.InHeader.{InHeader}
use Rattle.fuse_wire.specs.declared.reply.Answer.TheVariants.{Error}
use Rattle.fuse_wire.specs.declared.reply.Reply.{Reply}
use Rattle.fuse_wire.specs.Request.{opcode_of, is_forget}
use Rattle.fuse_wire.specs.RequestReading.{fields_of}

-- the error that answers a request which was refused with this fault
abbrev pub errno_of_fault : WireFault → Errno
errno_of_fault (BadName TooLong) = ENAMETOOLONG
errno_of_fault NoMemory = ENOMEM
errno_of_fault fault = EINVAL

-- the reply to a refused request with this header; none for a forget, for which the kernel awaits no reply
abbrev pub refusal_of : InHeader → WireFault → Option Reply
refusal_of header fault =
    if is_forget (opcode_of header.opcode) then None
    else Some (record { unique = header.unique; answer = Error (errno_of_fault fault) })

-- the reply to bytes that were refused; none for a forget, and for bytes without a whole header
abbrev pub fault_reply_of : List ℕ → WireFault → Option Reply
fault_reply_of bytes fault = if nat_lt (length bytes) 40 then None else refusal_of (fields_of bytes) fault
