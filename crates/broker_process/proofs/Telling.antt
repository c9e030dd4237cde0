-- A reply is written by its own text.
use Rattle.std.proofs.Common.{◌≡◌, ℕ, Bool, true, List, Option, subst, inl, inr, ◌∙◌}
use Rattle.eden_base.specs.declared.errno.Errno.TheVariants.{EIO, ENOMEM}
use Rattle.fuse_wire.specs.ReplyText.{is_buffer}
use Rattle.fuse_wire.specs.declared.reply.Reply.{Reply}
use Rattle.mount_wire.specs.Told.{error_text, told_by}
use Rattle.mount_wire.specs.declared.kept.Kept.{Kept}
use Rattle.mount_wire.specs.declared.told_answer.MountAttributes.{MountAttributes}
use Rattle.broker_process.specs.Writing.{TellsReply, Writes}
use Rattle.broker_process.specs.declared.reply_write.Written.{Written}

-- these bytes are written, and those in place of what the device refuses
writes_as :
    (text shown error shown_error : List ℕ) (result : Written) (old new : Option (List ℕ)) → shown ≡ text → shown_error ≡ error →
    Writes shown shown_error result old new → Writes text error result old new
writes_as text shown error shown_error result old new is error_is writes =
    subst (λ (e : List ℕ). Writes text e result old new) error_is
    (subst (λ (t : List ℕ). Writes t shown_error result old new) is writes)

module _ (kept : Kept) (reply : Reply) (own : MountAttributes) (shown shown_error : List ℕ) (result : Written) (old new : Option (List ℕ)) where
  -- the text that the mount is told
  pub tells_whole :
      shown ≡ told_by kept reply.unique reply.answer own → shown_error ≡ error_text reply.unique EIO →
      Writes shown shown_error result old new → TellsReply kept reply own result old new
  tells_whole is error_is writes =
      inl (writes_as (told_by kept reply.unique reply.answer own) shown (error_text reply.unique EIO) shown_error result old new is error_is writes)

  -- ENOMEM in its place
  pub tells_lack :
      is_buffer reply.answer ≡ true → shown ≡ error_text reply.unique ENOMEM → shown_error ≡ error_text reply.unique EIO →
      Writes shown shown_error result old new → TellsReply kept reply own result old new
  tells_lack lacks is error_is writes =
      inr (lacks, writes_as (error_text reply.unique ENOMEM) shown (error_text reply.unique EIO) shown_error result old new is error_is writes)
