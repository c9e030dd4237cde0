-- Why an event is refused: the word that a printed line has for each refusal, and the refusal of each fault. (This
-- project's own.)
use Rattle.std.specs.Prelude.{ℕ, Bool, true, false, List, [], ◌∷◌, codes}
use Rattle.eden_base.specs.declared.claim.ClaimFault.{ClaimFault}
use Rattle.eden_base.specs.declared.claim.ClaimFault.TheVariants as claim
use Rattle.broker_core.specs.declared.broker.MountFault.{MountFault}
use Rattle.broker_core.specs.declared.broker.MountFault.TheVariants as mount
use Rattle.broker_core.specs.declared.broker.IssueFault.{IssueFault}
use Rattle.broker_core.specs.declared.broker.IssueFault.TheVariants as issue
use Rattle.broker_core.specs.declared.fault.TakeFault.{TakeFault}
use Rattle.broker_core.specs.declared.fault.TakeFault.TheVariants as take
use Rattle.broker_core.specs.declared.fault.PostFault.{PostFault}
use Rattle.broker_core.specs.declared.fault.PostFault.TheVariants as post
use Rattle.takeover_core.specs.declared.node.DrainFault.{DrainFault}
use Rattle.takeover_core.specs.declared.node.DrainFault.TheVariants as drain
use Rattle.daemon.specs.declared.happened.Begun.{Begun}
use Rattle.daemon.specs.declared.happened.Begun.TheVariants as begun
use Rattle.daemon.specs.declared.happened.Happened.{Happened}
use Rattle.daemon.specs.declared.happened.Happened.TheVariants as happened
use Rattle.daemon.specs.declared.happened.Refusal.{Refusal}
use Rattle.daemon.specs.declared.happened.Refusal.TheVariants as refusal

-- the word that a printed line has for a refusal
abbrev pub refusal_name : Refusal → List ℕ
refusal_name refusal.NoDaemon = codes "NoDaemon"
refusal_name refusal.WrongPhase = codes "WrongPhase"
refusal_name refusal.NoSuch = codes "NoSuch"
refusal_name refusal.Seated = codes "Seated"
refusal_name refusal.LastGeneration = codes "LastGeneration"
refusal_name refusal.NotMounted = codes "NotMounted"
refusal_name refusal.NotHeld = codes "NotHeld"
refusal_name refusal.BadForget = codes "BadForget"
refusal_name refusal.Full = codes "Full"
refusal_name refusal.Ended = codes "Ended"
refusal_name (refusal.Stale now) = codes "Stale"
refusal_name refusal.Empty = codes "Empty"
refusal_name refusal.NotAsked = codes "NotAsked"
refusal_name (refusal.Unanswered asks) = codes "Unanswered"
refusal_name (refusal.Undrained in_hand unposted) = codes "Undrained"
refusal_name refusal.NoMemory = codes "NoMemory"

-- ---- causes

-- the refusal of a mount, with the name of the broker's fault
abbrev pub refusal_of_mount : MountFault → Refusal
refusal_of_mount mount.Seated = refusal.Seated
refusal_of_mount mount.LastGeneration = refusal.LastGeneration

-- the refusal of a request that is not issued, with the name of the broker's fault
abbrev pub refusal_of_issue : IssueFault → Refusal
refusal_of_issue issue.NotMounted = refusal.NotMounted
refusal_of_issue issue.NotHeld = refusal.NotHeld
refusal_of_issue issue.BadForget = refusal.BadForget
refusal_of_issue issue.Full = refusal.Full
refusal_of_issue issue.NoMemory = refusal.NoMemory

-- the refusal of a take, with the name of the broker's fault
abbrev pub refusal_of_take : TakeFault → Refusal
refusal_of_take take.Ended = refusal.Ended
refusal_of_take (take.Stale now) = refusal.Stale now
refusal_of_take take.Empty = refusal.Empty

-- the refusal of a reply that is not posted, with the name of the broker's fault
abbrev pub refusal_of_post : PostFault → Refusal
refusal_of_post post.Ended = refusal.Ended
refusal_of_post (post.Stale now) = refusal.Stale now
refusal_of_post post.NotAsked = refusal.NotAsked

-- the refusal of a daemon that is not drained, with the name of the fault
abbrev pub refusal_of_drain : DrainFault → Refusal
refusal_of_drain drain.WrongPhase = refusal.WrongPhase
refusal_of_drain (drain.Undrained in_hand unposted) = refusal.Undrained in_hand unposted

-- the refusal of a claim, with the name of the broker's fault
abbrev pub refusal_of_claim : ClaimFault → Refusal
refusal_of_claim claim.Ended = refusal.Ended
refusal_of_claim (claim.Stale now) = refusal.Stale now
refusal_of_claim (claim.Unanswered asks) = refusal.Unanswered asks
refusal_of_claim claim.LastGeneration = refusal.LastGeneration

-- ---- what was made

-- whether an event was made
abbrev pub is_made : Happened → Bool
is_made (happened.Refused refusal) = false
is_made told = true

-- whether a request was issued and taken
abbrev pub is_begun : Begun → Bool
is_begun (begun.Refused refusal) = false
is_begun (begun.Issued unique taken) = is_made taken

-- what is told of a request that a daemon takes at once: of the issue, and then of the take
abbrev pub told_begun : Begun → List Happened
told_begun (begun.Refused refusal) = happened.Refused refusal ∷ []
told_begun (begun.Issued unique taken) = happened.Asked unique ∷ taken ∷ []
