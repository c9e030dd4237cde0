use Rattle.std.proofs.Common.{◌∙◌}
use Rattle.fuse_wire.proofs.Replies.{buffer_again}
use Rattle.fuse_wire.proofs.reply_reader.read_buffer_reply.Goals as goal

pub returns-clause-only : goal.returns-clause-only
returns-clause-only c = λ reply may fits is. c.read_buffer.ensures ∙ buffer_again reply c.args.bytes may fits is
