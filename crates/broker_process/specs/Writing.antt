-- How a reply is written until the kernel takes it. (This project's own.)
use Rattle.std.specs.Prelude.{◌≡◌, ℕ, Bool, true, zero, suc, ◌+◌, ◌⊎◌, nat_lt, List, Option, Some, None, if◌then◌else◌}
use Rattle.eden_base.specs.declared.errno.Errno.TheVariants.{EIO, ENOMEM}
use Rattle.fuse_wire.specs.ReplyText.{is_buffer}
use Rattle.fuse_wire.specs.declared.reply.Reply.{Reply}
use Rattle.mount_wire.specs.Told.{error_text, told_by}
use Rattle.mount_wire.specs.declared.kept.Kept.{Kept}
use Rattle.mount_wire.specs.declared.told_answer.MountAttributes.{MountAttributes}
use Rattle.broker_process.specs.Device.{Gives}
use Rattle.broker_process.specs.declared.device.Given.{Given}
use Rattle.broker_process.specs.declared.device.Given.TheVariants.{Taken, Withdrawn, Refused}
use Rattle.broker_process.specs.declared.reply_write.Written.{Written}
use Rattle.broker_process.specs.declared.reply_write.Written.TheVariants as written

-- what is written behind so many writes that were refused: the reply up to three times, and then the error
abbrev pub next_text : List ℕ → List ℕ → ℕ → List ℕ
next_text reply error refusals = if nat_lt refusals 3 then reply else error

-- what the program that waits got by a write that followed so many others; none if it waits on
abbrev pub written_by : Given → ℕ → Option Written
written_by Taken refusals = if nat_lt refusals 3 then Some written.Reply else Some written.Error
written_by Withdrawn refusals = Some written.Withdrawn
written_by (Refused error) refusals = None

-- the writes of a reply, where so many are left and so many were refused: each was refused but the last one, and the
-- result is that one's; or all that were left were refused
abbrev pub WritesFrom : ℕ → ℕ → List ℕ → List ℕ → Written → Option (List ℕ) → Option (List ℕ) → Type 0
WritesFrom zero refusals reply error result old new = (result ≡ written.Refused) × (new ≡ old)
WritesFrom (suc left) refusals reply error result old new =
    (given : Given) × (mid : Option (List ℕ)) × Gives (next_text reply error refusals) given old mid
    × (((written_by given refusals ≡ Some result) × (new ≡ mid))
    ⊎ ((written_by given refusals ≡ None) × WritesFrom left (refusals + 1) reply error result mid new))

-- the writes of a reply, six at most
abbrev pub Writes : List ℕ → List ℕ → Written → Option (List ℕ) → Option (List ℕ) → Type 0
Writes reply error result old new = WritesFrom 6 0 reply error result old new

-- A reply is written as the kernel of this mount is told it; where memory for its buffer was refused, ENOMEM is written in its
-- place. In place of what the device refuses, EIO is written.
abbrev pub TellsReply : Kept → Reply → MountAttributes → Written → Option (List ℕ) → Option (List ℕ) → Type 0
TellsReply kept reply own result old new =
    Writes (told_by kept reply.unique reply.answer own) (error_text reply.unique EIO) result old new
    ⊎ ((is_buffer reply.answer ≡ true) × Writes (error_text reply.unique ENOMEM) (error_text reply.unique EIO) result old new)
