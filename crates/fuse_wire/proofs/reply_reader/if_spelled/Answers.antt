use Rattle.std.proofs.Common.{◌≡◌, take, sym, ap, ◌∙◌, arith}
use Rattle.std.proofs.lemmas.Grind.{common_steps}
use Rattle.std.proofs.lemmas.List.{take_at}
use Rattle.fuse_wire.specs.ReplyText.{reply_head, reply_text}
use Rattle.fuse_wire.proofs.ReplyLaws.{head_is_whole}
use Rattle.fuse_wire.proofs.reply_reader.if_spelled.Goals as goal

pub returns : goal.returns
returns c =
    let reply = c.args.reply in
    let len = c.write_reply-len.result in
    let out = c.write_reply-len.new.out in
    let front : take len out ≡ reply_text reply =
    ap (take len) c.write_reply-len.ensures.head ∙ take_at (reply_head reply) _ len (sym c.write_reply-len.ensures.len) ∙ head_is_whole reply c.requires.fixed in
    rw (← front) (grind (arith, common_steps))
