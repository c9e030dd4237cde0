-- What is put one after the other is the text with what is put in.
use Rattle.std.proofs.Common.{ℕ, drop, ap, ◌∙◌}
use Rattle.mount_wire.specs.Told.{blocks_at, filled, front_told, owner_text}
use Rattle.mount_wire.proofs.Items.{put_in}
use Rattle.mount_wire.proofs.told_answer.with_own.Goals as goal

pub returns : goal.returns
returns c = record {
  told = put_in c.args.text.now (blocks_at c.args.shown.now.has_entry) (front_told c.args.text.now c.args.shown.now.has_entry c.args.own.now.valid) _ _ _ _ _ (filled c.args.shown.now.size c.args.own.now.since) (owner_text c.args.own.now.owner) _ _ _ _ _ _
      (c.split_at.ensures.back ∙ ap (λ (n : ℕ). drop n c.args.text.now) c.blocks_at.ensures) c.split_at-2.ensures.back c.split_at-3.ensures.front c.split_at-3.ensures.back c.split_at-4.ensures.back
      c.new-reply.ensures.empty c.put_front.ensures.put c.put_blocks_and_times.ensures.put c.put.ensures.put c.put_owner.ensures.put c.put-2.ensures.put;
}
