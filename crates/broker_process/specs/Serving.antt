-- What becomes of the messages that are read from a kernel's device, one after another. (This project's own.)
use Rattle.std.specs.Prelude.{◌≡◌, ⊤, ◌⊎◌, ℕ, zero, suc, List, Option, Result, Ok, Err}
use Rattle.broker_desk.specs.Desk.{DeskState}
use Rattle.broker_desk.specs.Progress.{HearsMessage}
use Rattle.broker_desk.specs.declared.progress.Progress.{Progress}
use Rattle.broker_desk.specs.declared.progress.Progress.TheVariants.{Done, Answers, Leaves, NotMounted}
use Rattle.broker_desk.specs.Kernel.{KernelState}
use Rattle.mount_wire.specs.Message.{Reads}
use Rattle.mount_wire.specs.declared.message.KernelMessage.{KernelMessage}
use Rattle.broker_process.specs.Device.{ReadsDevice}
use Rattle.broker_process.specs.Writing.{Writes}
use Rattle.broker_process.specs.declared.device.DeviceRead.{DeviceRead}
use Rattle.broker_process.specs.declared.device.DeviceRead.TheVariants as read
use Rattle.broker_process.specs.declared.fault.MountRunFault.{MountRunFault}
use Rattle.broker_process.specs.declared.fault.MountRunFault.TheVariants.{Broken, NoMemory}
use Rattle.broker_process.specs.declared.service.Handled.{Handled}
use Rattle.broker_process.specs.declared.service.Handled.TheVariants as handled
use Rattle.broker_process.specs.declared.service.MountEnd.{MountEnd}
use Rattle.broker_process.specs.declared.service.MountEnd.TheVariants.{Unmounted, Dead}
use Rattle.broker_process.specs.declared.reply_write.Written.{Written}
use Rattle.broker_process.specs.declared.reply_write.Written.TheVariants as written

-- ---- one message

-- Daemons change the desk between turns, so each turn speaks of the desk and of the asks under way as it found them.

-- a message was heard as far as it could be, over some state of the desk
abbrev pub IsHeard : KernelMessage → Progress → Type 0
IsHeard message progress =
    (old : DeskState) × (kernel : KernelState) × (new : DeskState) × (after : KernelState)
    × HearsMessage old kernel message progress new after

-- nothing is left of the message
abbrev pub IsEnd : Progress → Type 0
IsEnd (Leaves message) = ⊥
IsEnd progress = ⊤

-- a message was heard in one turn and as many more as the number says: each turn heard what the one before it left
abbrev pub IsHeardIn : ℕ → KernelMessage → Progress → Type 0
IsHeardIn zero message end = IsHeard message end × IsEnd end
IsHeardIn (suc turns) message end = (left : KernelMessage) × IsHeard message (Leaves left) × IsHeardIn turns left end

-- a message was heard until nothing was left of it
abbrev pub IsHeardToTheEnd : KernelMessage → Progress → Type 0
IsHeardToTheEnd message end = (turns : ℕ) × IsHeardIn turns message end

-- what becomes of a mount whose program wrote an answer of its own: it goes on, unless the device refused each write
abbrev pub handled_by : Written → Handled
handled_by written.Refused = handled.Refused
handled_by other = handled.GoesOn

-- what the program writes of its own at a message's end, and what becomes of the mount
abbrev pub WritesOwn : Progress → Handled → Option (List ℕ) → Option (List ℕ) → Type 0
WritesOwn Done becomes old new = (becomes ≡ handled.GoesOn) × (new ≡ old)
WritesOwn (Answers text) becomes old new =
    (result : Written) × (becomes ≡ handled_by result) × Writes text text result old new
WritesOwn NotMounted becomes old new = (becomes ≡ handled.NotMounted) × (new ≡ old)
WritesOwn (Leaves message) becomes old new = ⊥

-- the bytes of one message were read as a message, which was heard to its end; an answer of the program's own was written
-- until the kernel took it, six times at most
pub record Handles (bytes : List ℕ) (becomes : Handled) (old new : Option (List ℕ)) : Type 0 where
  pub message : KernelMessage
  pub reads : Reads bytes message
  pub end : Progress
  pub heard : IsHeardToTheEnd message end
  pub writes : WritesOwn end becomes old new

-- ---- all messages of a mount

-- what a read gave was handled, and the mount goes on
abbrev pub GoesOn : DeviceRead → Option (List ℕ) → Option (List ℕ) → Type 0
GoesOn (read.Message bytes) old new = Handles bytes.now handled.GoesOn old new
GoesOn read.Again old new = new ≡ old
GoesOn read old new = ⊥

-- what a read gave ended the mount: no daemon had the seat when it was handled, the device refused an answer, somebody
-- unmounted, or the device broke
abbrev pub EndsBy : DeviceRead → Result MountEnd MountRunFault → Option (List ℕ) → Option (List ℕ) → Type 0
EndsBy (read.Message bytes) (Ok Dead) old new = Handles bytes.now handled.NotMounted old new
EndsBy (read.Message bytes) (Err (Broken error)) old new = Handles bytes.now handled.Refused old new
EndsBy read.Unmounted (Ok Unmounted) old new = new ≡ old
EndsBy (read.Broken error) (Err (Broken cause)) old new = (cause ≡ error) × (new ≡ old)
EndsBy read ended old new = ⊥

-- a mount ended by a read, behind as many others as the number says: what each of them gave was handled before the next
-- one. `left` is what was still to be read, and `output` what the program wrote of its own, where those are known.
abbrev pub ServesIn : ℕ → Result MountEnd MountRunFault → Option (List ℕ) → Option (List ℕ) → Option (List ℕ) → Option (List ℕ) → Type 0
ServesIn zero ended left output left_then output_then =
    (read : DeviceRead) × ReadsDevice left left_then read × EndsBy read ended output output_then
ServesIn (suc reads) ended left output left_then output_then =
    (read : DeviceRead) × (left_mid : Option (List ℕ)) × (output_mid : Option (List ℕ))
    × ReadsDevice left left_mid read × GoesOn read output output_mid
    × ServesIn reads ended left_mid output_mid left_then output_then

-- a mount was served to its end; or memory for the first read was refused, and nothing was read or written
abbrev pub ServesMount : Result MountEnd MountRunFault → Option (List ℕ) → Option (List ℕ) → Option (List ℕ) → Option (List ℕ) → Type 0
ServesMount ended left output left_then output_then =
    ((reads : ℕ) × ServesIn reads ended left output left_then output_then)
    ⊎ ((ended ≡ Err NoMemory) × (left_then ≡ left) × (output_then ≡ output))
