use Rattle.std.proofs.Common.{◌∙◌}
use Rattle.fuse_wire.proofs.Replies.{reading_is, text_again}
use Rattle.fuse_wire.proofs.reply_reader.read_reply.Goals as goal

pub returns-clause-text : goal.returns-clause-text
returns-clause-text c = let is = reading_is c.args.bytes.now c.read_spelled.result c.read_spelled.ensures in is.text

pub returns-clause-only : goal.returns-clause-only
returns-clause-only c = λ reply fixed fits is. c.read_spelled.ensures ∙ text_again reply c.args.bytes.now fixed fits is

pub returns-clause-short : goal.returns-clause-short
returns-clause-short c = let is = reading_is c.args.bytes.now c.read_spelled.result c.read_spelled.ensures in is.short

pub returns-clause-bad_length : goal.returns-clause-bad_length
returns-clause-bad_length c = let is = reading_is c.args.bytes.now c.read_spelled.result c.read_spelled.ensures in is.bad_length

pub returns-clause-no_others : goal.returns-clause-no_others
returns-clause-no_others c = let is = reading_is c.args.bytes.now c.read_spelled.result c.read_spelled.ensures in is.no_others
