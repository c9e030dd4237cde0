-- What becomes of a real kernel's message at the broker's desk. An ask is issued once, or answered here once, or refused;
-- a forget is issued once, or refused. What can be issued later is left as it was. (This project's own.)
use Rattle.std.specs.Prelude.{◌≡◌, ⊤, ◌⊎◌, List, [], ◌∷◌}
use Rattle.eden_base.specs.declared.errno.Errno.TheVariants.{ESTALE}
use Rattle.fuse_wire.specs.declared.item.Item.{Item}
use Rattle.fuse_wire.specs.declared.request.Ask.{Ask}
use Rattle.fuse_wire.specs.declared.request.Request.TheVariants.{Forget}
use Rattle.broker_desk.specs.Desk.{DeskState}
use Rattle.mount_wire.specs.Message.{IsForDaemons}
use Rattle.mount_wire.specs.Told.{error_text}
use Rattle.mount_wire.specs.declared.message.KernelMessage.{KernelMessage}
use Rattle.mount_wire.specs.declared.message.KernelMessage.TheVariants.{Answered, Asked, Forgot, ForgotMany, Ignored}
use Rattle.broker_core.specs.Broker.{IsIssueRefusal}
use Rattle.broker_core.specs.declared.broker.IssueFault.TheVariants as issue
use Rattle.broker_desk.specs.Forgets.{IsForgotten}
use Rattle.broker_desk.specs.Kernel.{IsAsked, IsAskRefused, IsKept, KernelState}
use Rattle.broker_desk.specs.declared.progress.Progress.{Progress}
use Rattle.broker_desk.specs.declared.progress.Progress.TheVariants.{Done, Answers, Leaves, NotMounted}

-- ---- asks

-- an ask is issued; or it goes to a number that the kernel doesn't hold, and is answered ESTALE here; or it is left
-- whole; or the mount is over
abbrev pub HearsAsk : DeskState → KernelState → Ask → Progress → DeskState → KernelState → Type 0
HearsAsk old kernel ask Done new after = IsAsked old kernel ask new after
HearsAsk old kernel ask (Answers text) new after =
    (text ≡ error_text ask.unique ESTALE) × IsAskRefused old kernel ask issue.NotHeld new after
HearsAsk old kernel ask (Leaves message) new after =
    (message ≡ Asked ask) × (IsAskRefused old kernel ask issue.Full new after ⊎ IsAskRefused old kernel ask issue.NoMemory new after)
HearsAsk old kernel ask NotMounted new after = IsAskRefused old kernel ask issue.NotMounted new after

-- ---- forgets

-- a forget is issued, or is bad and changes nothing
abbrev pub IsHeard : DeskState → Item → DeskState → Type 0
IsHeard old item new = IsForgotten old item new ⊎ (IsIssueRefusal old.broker (Forget item) issue.BadForget × (new ≡ old))

-- a forget can't be issued now: as many wait as may, or memory was refused; or the mount is over
abbrev pub IsPutOff : DeskState → Item → KernelMessage → Progress → Type 0
IsPutOff desk item left (Leaves message) =
    (message ≡ left) × (IsIssueRefusal desk.broker (Forget item) issue.Full ⊎ IsIssueRefusal desk.broker (Forget item) issue.NoMemory)
IsPutOff desk item left NotMounted = IsIssueRefusal desk.broker (Forget item) issue.NotMounted
IsPutOff desk item left progress = ⊥

-- one forget
abbrev pub HearsItem : DeskState → Item → Progress → DeskState → Type 0
HearsItem old item progress new =
    ((progress ≡ Done) × IsHeard old item new) ⊎ (IsPutOff old item (Forgot item) progress × (new ≡ old))

-- many forgets, in their order: behind each that is heard the next ones are; the first that is put off is left, with all
-- behind it
abbrev pub HearsItems : List Item → DeskState → Progress → DeskState → Type 0
HearsItems [] old progress new = (progress ≡ Done) × (new ≡ old)
HearsItems (item ∷ items) old progress new =
    ((mid : DeskState) × IsHeard old item mid × HearsItems items mid progress new)
    ⊎ (IsPutOff old item (ForgotMany (item ∷ items)) progress × (new ≡ old))

-- ---- whole messages

-- a message; one that no daemon hears of changes nothing, and its answer is what it came with
abbrev pub HearsMessage : DeskState → KernelState → KernelMessage → Progress → DeskState → KernelState → Type 0
HearsMessage old kernel (Answered text) progress new after = (progress ≡ Answers text) × IsKept old kernel new after
HearsMessage old kernel (Asked ask) progress new after = HearsAsk old kernel ask progress new after
HearsMessage old kernel (Forgot item) progress new after = HearsItem old item progress new × (after ≡ kernel)
HearsMessage old kernel (ForgotMany items) progress new after = HearsItems items old progress new × (after ≡ kernel)
HearsMessage old kernel Ignored progress new after = (progress ≡ Done) × IsKept old kernel new after

-- what is left may be heard again
abbrev pub LeavesForDaemons : Progress → Type 0
LeavesForDaemons (Leaves message) = IsForDaemons message
LeavesForDaemons progress = ⊤
