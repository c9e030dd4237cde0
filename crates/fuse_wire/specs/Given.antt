-- Which replies give a number out: those that carry a `fuse_entry_out` of `linux/fuse.h`.
use Rattle.std.specs.Prelude.{Option, Some, None}
use Rattle.eden_base.specs.declared.number.Number.{Number}
use Rattle.fuse_wire.specs.declared.reply.Answer.{Answer}
use Rattle.fuse_wire.specs.declared.reply.Answer.TheVariants.{Entry, Opened}

-- the number that an answer gives out, if any; the kernel holds that number once more
abbrev pub given_out : Answer → Option Number
given_out (Entry number attr) = Some number
given_out (Opened number attr) = Some number
given_out answer = None
