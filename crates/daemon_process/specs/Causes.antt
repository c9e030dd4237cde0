-- Why a takeover failed, as each of its two daemons sees it, and how that ends a new daemon. (This project's own.)
use Rattle.std.specs.Prelude.{Bool, true, false, ◌||◌, not, Option, Some, None, if◌then◌else◌}
use Rattle.daemon_desk.specs.declared.answers.Claiming.{Claiming}
use Rattle.daemon_desk.specs.declared.answers.Claiming.TheVariants as claiming
use Rattle.frames.specs.declared.fault.FrameFault.{FrameFault}
use Rattle.frames.specs.declared.fault.FrameFault.TheVariants as frame_fault
use Rattle.frames.specs.declared.frame.Frame.{Frame}
use Rattle.frames.specs.declared.frame.Frame.TheVariants.{Takeover}
use Rattle.takeover_core.specs.declared.message.Message.TheVariants as message
use Rattle.takeover_core.specs.declared.phase.Phase.{Phase}
use Rattle.takeover_core.specs.declared.phase.Phase.TheVariants.{Waiting, Chosen, Reading, Draining, Pinged, Making, Handed}
use Rattle.daemon_process.specs.declared.cause.AwaitedMessage.{AwaitedMessage}
use Rattle.daemon_process.specs.declared.cause.AwaitedMessage.TheVariants.{Choice, Ready, Data, Part, Pong, Claim, Nothing}
use Rattle.daemon_process.specs.declared.cause.TakeoverFault.{TakeoverFault}
use Rattle.daemon_process.specs.declared.cause.TakeoverFault.TheVariants.{Silent, Closed, Unreadable, GivenUp, NoCommon, Busy, NoMemory, OtherManifest, BadImage, NoImage, StaleClaim, LastGeneration, NoAnswer, Ended}
use Rattle.daemon_process.specs.declared.exit.Exit.{Exit}
use Rattle.daemon_process.specs.declared.exit.Exit.TheVariants as exit
use Rattle.daemon_process.specs.declared.fault.DaemonFault.TheVariants.{OfferRefused, TakeoverFailed}

-- ---- what was awaited

-- what a new daemon awaits whose offer was taken: data, once it said that it is there
abbrev pub chosen_awaits : Bool → AwaitedMessage
chosen_awaits true = Data
chosen_awaits false = Ready

-- what a daemon awaits of the other one, by whether it said that it is there, and by its phase
abbrev pub awaited_in : Bool → Phase → AwaitedMessage
awaited_in is_ponged Waiting = Choice
awaited_in is_ponged (Chosen session version) = chosen_awaits is_ponged
awaited_in is_ponged (Reading session generation version position count) = Part position count
awaited_in is_ponged (Pinged generation session version) = Pong
awaited_in is_ponged (Handed generation session) = Claim
awaited_in is_ponged phase = Nothing

-- ---- where no frame was read

-- why no bytes could be read, by whether the time for them had passed
abbrev pub unread_by : Bool → AwaitedMessage → TakeoverFault
unread_by true awaited = Silent awaited
unread_by false awaited = Closed awaited

-- why no frame was read, by the fault, or by none where the connection was closed
abbrev pub loss_by : Option FrameFault → Bool → AwaitedMessage → TakeoverFault
loss_by None is_late awaited = Closed awaited
loss_by (Some frame_fault.Torn) is_late awaited = Closed awaited
loss_by (Some frame_fault.Read) is_late awaited = unread_by is_late awaited
loss_by (Some frame_fault.NoMemory) is_late awaited = NoMemory
loss_by (Some fault) is_late awaited = Unreadable awaited

-- ---- of a new daemon

-- why data can't be taken over, by whether it came with another manifest
abbrev pub data_cause : Bool → TakeoverFault
data_cause true = OtherManifest
data_cause false = BadImage

-- why a new daemon is gone by this frame of the other one
abbrev pub cause_by : Bool → Frame → TakeoverFault
cause_by is_another (Takeover message.NoCommon) = NoCommon
cause_by is_another (Takeover message.Busy) = Busy
cause_by is_another (Takeover (message.Failed session)) = GivenUp
cause_by is_another frame = data_cause is_another

-- why a new daemon has no seat, by the answer to its claim
abbrev pub cause_of_claim : Claiming → Option TakeoverFault
cause_of_claim (claiming.Serves generation) = None
cause_of_claim claiming.Ended = Some Ended
cause_of_claim claiming.Stale = Some StaleClaim
cause_of_claim claiming.LastGeneration = Some LastGeneration
cause_of_claim claiming.Waits = Some NoAnswer
cause_of_claim claiming.Broken = Some NoAnswer

-- how a new daemon ends, by the cause: an offer is refused exactly by NoCommon or Busy
abbrev pub exit_of : TakeoverFault → Exit
exit_of NoCommon = exit.Faulty OfferRefused
exit_of Busy = exit.Faulty OfferRefused
exit_of Ended = exit.Ended
exit_of cause = exit.Faulty TakeoverFailed

-- ---- of a daemon that serves

-- whether a takeover is under way
abbrev pub is_under_way : Phase → Bool
is_under_way (Draining generation session version) = true
is_under_way (Pinged generation session version) = true
is_under_way (Making generation session version) = true
is_under_way (Handed generation session) = true
is_under_way phase = false

-- why a takeover was over by this frame: the other daemon said so, or else no data could be made
abbrev pub failure_by : Frame → TakeoverFault
failure_by (Takeover (message.Failed session)) = GivenUp
failure_by frame = NoImage

-- why a takeover was over by this frame, if one was: it was under way before it, and is no more
abbrev pub failed_by : Phase → Frame → Phase → Option TakeoverFault
failed_by before frame after =
    if not (is_under_way before) || is_under_way after then None else Some (failure_by frame)
