use Rattle.std.proofs.Common.{◌≡◌, ◌≤◌, ◌+◌, ◌++◌, ap, sym, ◌∙◌, subst, take, length, length-append, length-take, arith}
use Rattle.std.proofs.lemmas.List.{take_at}
use Rattle.std.specs.Int.{w64}
use Rattle.byte_codec.specs.Field.{number_bytes}
use Rattle.byte_codec.proofs.WriteLemmas.{len_eight}
use Rattle.fuse_wire.specs.ReplyText.{payload, reply_head, reply_text, buffer_of}
use Rattle.fuse_wire.proofs.ReplyLaws.{length-reply_text, payload_fits}
use Rattle.links.proofs.frame_room.FrameRoom.write_post.Goals as goal

pub returns-clause-memory : goal.returns-clause-memory
returns-clause-memory g c =
    let reply = c.args.reply.now in
    let bytes = c.write_reply-len.new.out in
    let len = c.write_reply-len.result in
    let rest = c.buffer.result.now in
    let short : length (payload reply.answer) ≤ 65512 = payload_fits reply.answer c.write_reply-len.ensures.fits.1.1 in
    let whole : length (reply_text reply) ≡ length (reply_head reply) + length (buffer_of reply.answer) =
    ap length c.write_reply-len.ensures.whole ∙ length-append (reply_head reply) (buffer_of reply.answer) in
    c.write_post.ensures.in_room (omega (
      arith,
      length-append (number_bytes w64 c.args.generation) (take len bytes ++ rest),
      length-append (take len bytes) rest,
      len_eight c.args.generation,
      length-take len bytes,
      length-reply_text reply,
      ap length c.buffer.ensures.bytes,
      c.write_reply-len.ensures.len,
      c.self.invariant.0,
    ))
