-- Who is attached to the broker, and how each frame of a daemon is answered, with a row for each kind of frame. Which
-- calls of the broker give the answers, and by which rules daemons get their numbers, is this project's own.
use Rattle.std.specs.Prelude.{◌≡◌, ℕ, ◌+◌, Bool, true, false, ◌||◌, ◌⊎◌, ◌==◌, not, nat_le, List, [], ◌∷◌, ◌++◌, length, position, remove, Option, Some, None, is_some, Result, Ok, Err, if◌then◌else◌}
use Rattle.std.specs.Option.{option_and_then, option_map_or}
use Rattle.std.specs.List.{AllByRecursion}
use Rattle.eden_base.specs.declared.number.DaemonId.{DaemonId}
use Rattle.eden_base.specs.declared.claim.ClaimFault.{ClaimFault}
use Rattle.eden_base.specs.declared.claim.ClaimFault.TheVariants as claim
use Rattle.fuse_wire.specs.Request.{IsSendable}
use Rattle.fuse_wire.specs.RequestText.{request_text}
use Rattle.fuse_wire.specs.ReplyReading.{reply_to, unique_in}
use Rattle.fuse_wire.specs.declared.form.Form.{Form}
use Rattle.fuse_wire.specs.declared.fault.WireFault.{WireFault}
use Rattle.fuse_wire.specs.declared.request.Ask.{Ask as FuseAsk}
use Rattle.fuse_wire.specs.declared.reply.Reply.{Reply}
use Rattle.broker_core.specs.Broker.{BrokerState, new_broker, mount_fault, mounted, take_fault, taken, post_fault, posted, claim_fault, claimed, without_daemon}
use Rattle.broker_core.specs.Traffic.{form_asked, next_taken}
use Rattle.broker_core.specs.declared.broker.MountFault.{MountFault}
use Rattle.broker_core.specs.declared.broker.MountFault.TheVariants as mount
use Rattle.broker_core.specs.declared.fault.TakeFault.{TakeFault}
use Rattle.broker_core.specs.declared.fault.TakeFault.TheVariants as take
use Rattle.broker_core.specs.declared.fault.PostFault.{PostFault}
use Rattle.broker_core.specs.declared.fault.PostFault.TheVariants as post
use Rattle.frames.specs.declared.frame.Frame.{Frame}
use Rattle.frames.specs.declared.frame.Frame.TheVariants.{Take, Ask, Empty, Post, Posted, Ended, Stale, NotAsked, Claim, Claimed, Unanswered, LastGeneration, Mount, Mounted, Seated, Attach, Attached, Takeover}
use Rattle.takeover_core.specs.declared.message.Message.TheVariants.{Busy}
use Rattle.broker_desk.specs.declared.peer.Peer.{Peer}
use Rattle.broker_desk.specs.declared.peer.Peer.TheVariants.{Unattached, Daemon, Worker}
use Rattle.broker_desk.specs.declared.peer.Response.{Response}
use Rattle.broker_desk.specs.declared.peer.Response.TheVariants.{Tells, Closes}

-- The kernel's side; the daemons that got a number and still run, in the order in which they came; the number of the one
-- that came last; how many may come; and whether the desk is closed, so that every daemon is told that the mount is over.
pub record DeskState : Type 0 where
  pub broker : BrokerState
  pub daemons : List DaemonId
  pub last : ℕ
  pub most : ℕ
  pub is_closed : Bool

-- how many daemons run at once
abbrev pub most_daemons : ℕ
most_daemons = 1024

-- a desk at which nothing is mounted, and to which no daemon came of the most that may
abbrev pub desk_of : ℕ → DeskState
desk_of most = record { broker = new_broker; daemons = []; last = 0; most = most; is_closed = false }

-- a desk for a script: as many daemons come as may run at once
abbrev pub new_desk : DeskState
new_desk = desk_of most_daemons

-- a desk for a mount: as many daemons come as there are numbers of 64 bits
abbrev pub mount_desk : DeskState
mount_desk = desk_of 18446744073709551615

-- the frame that hands out an ask, or Empty if there is none
abbrev pub frame_taken : Option FuseAsk → Frame
frame_taken (Some ask) = Ask (request_text ask)
frame_taken None = Empty

-- ---- daemons

-- this is the daemon with the number
abbrev pub has_number : ℕ → DaemonId → Bool
has_number number daemon = daemon.0 == number

-- where the daemon stands among those that run, if it does
abbrev pub place_of : DeskState → DaemonId → Option ℕ
place_of desk daemon = position (has_number daemon.0) desk.daemons

-- a daemon got this number, and still runs
abbrev pub is_present : DeskState → DaemonId → Bool
is_present desk daemon = is_some (place_of desk daemon)

-- the mount is over for this daemon: the desk is closed, or the daemon does not run
abbrev pub is_over_for : DeskState → DaemonId → Bool
is_over_for desk daemon = desk.is_closed || not (is_present desk daemon)

-- the mount is over for each daemon that comes: the desk is closed, or as many came as may
abbrev pub is_over : DeskState → Bool
is_over desk = desk.is_closed || nat_le desk.most desk.last

-- as many daemons run as may
abbrev pub is_crowded : DeskState → Bool
is_crowded desk = nat_le most_daemons (length desk.daemons)

-- no further daemon gets a number
abbrev pub is_full : DeskState → Bool
is_full desk = is_over desk || is_crowded desk

-- the number that the next daemon gets
abbrev pub next_daemon : DeskState → DaemonId
next_daemon desk = record { 0 = desk.last + 1 }

-- ---- the results of frames

-- the result of a frame: what the peer is told, or none if its connection is closed; and the desk afterwards
pub record Turn : Type 0 where
  pub told : Option Frame
  pub desk : DeskState

-- the peer is told this frame, and the desk is unchanged
abbrev pub tells : DeskState → Frame → Turn
tells desk frame = record { told = Some frame; desk = desk }

-- the peer is told this frame, and the desk has this broker
abbrev pub tells_with : DeskState → Frame → BrokerState → Turn
tells_with desk frame broker = record { told = Some frame; desk = record desk { broker = broker } }

-- the connection is closed, and the desk is unchanged
abbrev pub closes : DeskState → Turn
closes desk = record { told = None; desk = desk }

-- the result of a Take, by the fault that refuses it, if any
abbrev pub takes : DeskState → Option TakeFault → Turn
takes desk (Some take.Ended) = tells desk Ended
takes desk (Some (take.Stale now)) = tells desk (Stale now)
takes desk (Some take.Empty) = tells desk Empty
takes desk None = tells_with desk (frame_taken (next_taken desk.broker.traffic)) (taken desk.broker)

-- the form of the answer to the ask that the bytes of a reply name, if a daemon took that ask and it has no reply
abbrev pub form_named : DeskState → List ℕ → Option Form
form_named desk reply = option_and_then (form_asked desk.broker.traffic) (unique_in reply)

-- the result of the Post of a reply, by the fault that refuses it, if any
abbrev pub posts_reply : DeskState → Reply → Option PostFault → Turn
posts_reply desk reply (Some post.Ended) = tells desk Ended
posts_reply desk reply (Some (post.Stale now)) = tells desk (Stale now)
posts_reply desk reply (Some post.NotAsked) = tells desk NotAsked
posts_reply desk reply None = tells_with desk Posted (posted desk.broker reply)

-- the result of the Post of bytes, as they are read; bytes that are no reply are NotAsked
abbrev pub posts : DeskState → DaemonId → ℕ → Result Reply WireFault → Turn
posts desk daemon generation (Ok reply) = posts_reply desk reply (post_fault desk.broker daemon generation reply)
posts desk daemon generation (Err fault) = tells desk NotAsked

-- the result of a Claim, by the fault that refuses it, if any
abbrev pub claims : DeskState → DaemonId → ℕ → Option ClaimFault → Turn
claims desk daemon generation (Some claim.Ended) = tells desk Ended
claims desk daemon generation (Some (claim.Stale now)) = tells desk (Stale now)
claims desk daemon generation (Some (claim.Unanswered asks)) = tells desk (Unanswered asks)
claims desk daemon generation (Some claim.LastGeneration) = tells desk LastGeneration
claims desk daemon generation None =
    tells_with desk (Claimed (generation + 1)) (claimed desk.broker daemon generation)

-- the result of a Mount, by the fault that refuses it, if any
abbrev pub mounts : DeskState → DaemonId → Option MountFault → Turn
mounts desk daemon (Some mount.Seated) = tells desk Seated
mounts desk daemon (Some mount.LastGeneration) = tells desk LastGeneration
mounts desk daemon None = tells_with desk (Mounted (desk.broker.last + 1)) (mounted desk.broker daemon)

-- The result of a daemon's frame while the mount lasts for that daemon. A frame of any other kind, which no daemon
-- sends, closes the connection.
abbrev pub serves : DeskState → DaemonId → Frame → Turn
serves desk daemon (Take generation) = takes desk (take_fault desk.broker daemon generation)
serves desk daemon (Post generation reply) = posts desk daemon generation (reply_to (form_named desk reply) reply)
serves desk daemon (Claim generation) = claims desk daemon generation (claim_fault desk.broker generation)
serves desk daemon Mount = mounts desk daemon (mount_fault desk.broker)
serves desk daemon frame = closes desk

-- the frame is a Post
abbrev pub is_post : Frame → Bool
is_post (Post generation reply) = true
is_post frame = false

-- attached daemons send frames of this kind
abbrev pub is_sent_by_daemons : Frame → Bool
is_sent_by_daemons (Take generation) = true
is_sent_by_daemons (Post generation reply) = true
is_sent_by_daemons (Claim generation) = true
is_sent_by_daemons Mount = true
is_sent_by_daemons frame = false

-- the result of a frame of an attached daemon
abbrev pub hears : DeskState → DaemonId → Frame → Turn
hears desk daemon frame =
    if not (is_sent_by_daemons frame) then closes desk
    else if is_over_for desk daemon then tells desk Ended
    else serves desk daemon frame

-- the result of the Attach of a new daemon: the daemon gets the next number; or it is told Ended if the mount is over for
-- it, and Busy if as many run as may
abbrev pub enrolls : DeskState → Turn
enrolls desk =
    if is_over desk then tells desk Ended
    else if is_crowded desk then tells desk (Takeover Busy)
    else record {
      told = Some (Attached (next_daemon desk));
      desk = record desk { daemons = desk.daemons ++ next_daemon desk ∷ []; last = desk.last + 1 };
    }

-- the result of an unattached peer's Attach; 0 is a new daemon's, any other number that of a daemon which got it before
abbrev pub attaches : DeskState → DaemonId → Turn
attaches desk daemon =
    if daemon.0 == 0 then enrolls desk
    else if is_over_for desk daemon then tells desk Ended
    else tells desk (Attached daemon)

-- the result of an unattached peer's frame; any other than an Attach closes the connection
abbrev pub meets : DeskState → Frame → Turn
meets desk (Attach daemon) = attaches desk daemon
meets desk frame = closes desk

-- the result of a frame of a peer
abbrev pub turn : DeskState → Peer → Frame → Turn
turn desk Unattached frame = meets desk frame
turn desk (Daemon daemon) frame = hears desk daemon frame
turn desk (Worker daemon) frame = hears desk daemon frame

-- ---- who is at the other end

-- the daemon at the other end, if it attached
abbrev pub daemon_at : Peer → Option DaemonId
daemon_at Unattached = None
daemon_at (Daemon daemon) = Some daemon
daemon_at (Worker daemon) = Some daemon

-- who an unattached peer is after an Attach: a new daemon, a worker of a daemon that got its number before, or still
-- unattached
abbrev pub attached_as : DeskState → DaemonId → Peer
attached_as desk daemon =
    if daemon.0 == 0 then (if is_full desk then Unattached else Daemon (next_daemon desk))
    else if is_over_for desk daemon then Unattached
    else Worker daemon

-- who a peer is after a frame
abbrev pub peer_after : DeskState → Peer → Frame → Peer
peer_after desk Unattached (Attach daemon) = attached_as desk daemon
peer_after desk peer frame = peer

-- ---- how a frame is answered

-- the frame that the peer is told, if any
abbrev pub told_by : Response → Option Frame
told_by (Tells frame) = Some frame
told_by Closes = None

-- the response and the new desk are those of a turn
pub record Makes (made : Turn) (response : Response) (new : DeskState) : Type 0 where
  pub told : told_by response ≡ made.told
  pub desk : new ≡ made.desk

-- Memory for the text of what is to be taken was refused: the peer is told Empty, and no ask is taken.
pub record TakesLater (old : DeskState) (daemon : Option DaemonId) (frame : Frame) (response : Response)
    (new : DeskState) : Type 0 where
  pub taker : DaemonId
  pub generation : ℕ
  pub attached : daemon ≡ Some taker
  pub is_take : frame ≡ Take generation
  pub not_over : is_over_for old taker ≡ false
  pub accepted : take_fault old.broker taker generation ≡ None
  pub told : response ≡ Tells Empty
  pub unchanged : new ≡ old

-- a frame is answered as its row says, or is a Take that is put off for lack of memory
abbrev pub Answers : DeskState → Peer → Frame → Response → DeskState → Type 0
Answers old peer frame response new =
    Makes (turn old peer frame) response new ⊎ TakesLater old (daemon_at peer) frame response new

-- ---- the end of a connection

-- the daemons without the one at this place, if there is one
abbrev pub struck : List DaemonId → Option ℕ → List DaemonId
struck daemons (Some place) = remove daemons place
struck daemons None = daemons

-- the desk after this daemon is gone; the mount is over if the daemon had the seat
abbrev pub without : DeskState → DaemonId → DeskState
without desk daemon =
    record desk { broker = without_daemon desk.broker daemon; daemons = struck desk.daemons (place_of desk daemon) }

-- the desk after a connection ended; if it was the first one of a daemon, that daemon is gone
abbrev pub left_by : DeskState → Peer → DeskState
left_by desk Unattached = desk
left_by desk (Daemon daemon) = without desk daemon
left_by desk (Worker daemon) = desk

-- the desk after the mount ended for all
abbrev pub closed : DeskState → DeskState
closed desk = record desk {
  broker = option_map_or (λ seat. without_daemon desk.broker seat.daemon) desk.broker.seat desk.broker;
  is_closed = true;
}

-- ---- what always holds

-- each of these asks has a text that is read as the same ask
abbrev pub AreSendable : List FuseAsk → Type 0
AreSendable asks = AllByRecursion (λ (ask : FuseAsk). IsSendable ask.what) asks
