use Rattle.std.proofs.Common.{◌≡◌, length, Some, sym, ◌∙◌}
use Rattle.mount_wire.specs.Told.{attributes_told}
use Rattle.mount_wire.proofs.Offsets.{within_head}
use Rattle.mount_wire.proofs.told_answer.tell_fixed.Goals as goal

pub with_own-requires-clause-within : goal.with_own-requires-clause-within
with_own-requires-clause-within c =
    let is : attributes_told c.args.answer ≡ Some c.in-Some.shown = sym c.attributes_told.ensures.shown ∙ c.in-Some.is in
    let len : length c.split_at.result.0.now ≡ c.write_reply-len.result = c.split_at.ensures.front_len in
    rw (len, c.write_reply-len.ensures.len) (within_head c.args.unique c.args.answer c.in-Some.shown is)
