use Rattle.std.proofs.Common.{◌≡◌, ◌+◌, length, take, drop, sym, ap, ◌∙◌, arith}
use Rattle.std.proofs.lemmas.List.{take_at}
use Rattle.fuse_wire.specs.ReplyText.{reply_head}
use Rattle.fuse_wire.specs.Writing.{Puts}
use Rattle.fuse_wire.proofs.Replies.{text_again}
use Rattle.fuse_wire.proofs.ReplyLaws.{head_and_buffer, head_is_whole, no_buffer}
use Rattle.fuse_wire.proofs.Written.{from_front, written}
use Rattle.fuse_wire.proofs.reply_writer.write_reply.Goals as goal

pub returns-clause-head : goal.returns-clause-head
returns-clause-head c =
    let head = reply_head c.args.reply.now in
    let len = 16 + c.head_payload_len-head_len.result in
    let whole : Puts c.new-fields.result c.put_payload.new.fields head = rw (c.head_payload_len-head_len.ensures.whole, ← c.buffer.ensures.bytes) (grind (arith, written)) in
    let is : len ≡ length head = grind (arith, written) in
    rw (← c.new-fields.ensures.bytes) (from_front c.new-fields.result c.put_payload.new.fields head len c.new-fields.ensures.at is whole)

pub returns-clause-read_again : goal.returns-clause-read_again
returns-clause-read_again c = λ fixed.
    let reply = c.args.reply.now in
    let head = reply_head reply in
    let len = 16 + c.head_payload_len-head_len.result in
    let is : len ≡ length head = grind (arith, written) in
    let front : take len c.put_payload.new.fields.bytes.now ≡ head = ap (take len) (returns-clause-head c) ∙ take_at head (drop len c.args.out.now) len (sym is) in
    text_again reply (take len c.put_payload.new.fields.bytes.now) fixed (c.put_header.ensures.fits, (c.put_payload.ensures.fits, rw (← c.buffer.ensures.bytes) c.buffer.ensures.at_most)) (front ∙ head_is_whole reply (no_buffer reply.answer fixed))

pub returns-clause-whole : goal.returns-clause-whole
returns-clause-whole c = head_and_buffer c.args.reply.now
