-- A daemon with the frames of its connections: what it makes of each frame that it gets, and of each call of its
-- program. What the daemon says and becomes is in `daemon`. Added here are the frames, and what is lent to workers.
-- (This project's own.)
use Rattle.std.specs.Prelude.{◌≡◌, ◌⊎◌, ℕ, Bool, true, false, ◌&&◌, ◌==◌, List, [], ◌∷◌, map, Option, Some, None, Result, Ok, Err, if◌then◌else◌}
use Rattle.std.specs.Option.{option_map}
use Rattle.eden_base.specs.declared.claim.ClaimFault.{ClaimFault}
use Rattle.eden_base.specs.declared.claim.ClaimFault.TheVariants as claim
use Rattle.manifest.specs.Manifest.{Manifest}
use Rattle.fuse_ops.specs.Served.{ServedState}
use Rattle.map_codec.specs.Handover.{NamesAnother}
use Rattle.takeover_core.specs.Phases.{heard, Hear, claim_wanted}
use Rattle.takeover_core.specs.declared.message.Message.{Message}
use Rattle.takeover_core.specs.declared.message.Message.TheVariants as message
use Rattle.takeover_core.specs.declared.phase.Phase.{Phase}
use Rattle.takeover_core.specs.declared.phase.Phase.TheVariants.{Serving, Draining}
use Rattle.takeover_core.specs.declared.node.DrainFault.{DrainFault}
use Rattle.frames.specs.declared.frame.Frame.{Frame}
use Rattle.frames.specs.declared.frame.Frame.TheVariants as frame
use Rattle.daemon.specs.Daemon.{DaemonState, new_daemon, is_waiting, with_server}
use Rattle.daemon.specs.Server.{ServerState}
use Rattle.daemon.specs.Serving.{beginning}
use Rattle.daemon.specs.Talking.{HearsSo, GivesUpSo, DrainsSo, MountsSo, ClaimsSo, brings_data}
use Rattle.daemon.specs.declared.turn.Reaction.{Reaction}
use Rattle.daemon.specs.declared.turn.Reaction.TheVariants as reaction
use Rattle.daemon_desk.specs.declared.answers.Hearing.{Hearing}
use Rattle.daemon_desk.specs.declared.answers.Hearing.TheVariants as hearing
use Rattle.daemon_desk.specs.declared.answers.Mounting.{Mounting}
use Rattle.daemon_desk.specs.declared.answers.Mounting.TheVariants as mounting
use Rattle.daemon_desk.specs.declared.answers.Claiming.{Claiming}
use Rattle.daemon_desk.specs.declared.answers.Claiming.TheVariants as claiming

-- A desk has a daemon, the manifest of its checkout, and how many attributes the daemon has loaded at most. It has what
-- the daemon serves once it mounts, if that was prepared. It tells whether workers have a lease; then the daemon serves
-- nothing.
pub record DeskState : Type 0 where
  pub daemon : DaemonState
  pub manifest : Manifest
  pub limit : ℕ
  pub prepared : Option ServedState
  pub is_lent : Bool

-- the desk of a daemon that just started, with these versions of the image
abbrev pub new_desk : Manifest → ℕ → List ℕ → DeskState
new_desk manifest limit versions = record {
  daemon = new_daemon versions;
  manifest = manifest;
  limit = limit;
  prepared = None;
  is_lent = false;
}

-- the desk with another daemon
abbrev pub with_daemon : DeskState → DaemonState → DeskState
with_daemon desk daemon = record desk { daemon = daemon }

-- ---- a frame of another daemon

-- the hearing of a daemon's reaction: all that the daemon says, each message as a frame
abbrev pub IsTold : Reaction → Hearing → Type 0
IsTold reaction.Ignores what = what ≡ hearing.Ignores
IsTold reaction.Accepts what = what ≡ hearing.Accepts
IsTold (reaction.Says said others) what = what ≡ hearing.Tells (map frame.Takeover (said ∷ others))

-- the daemon hears a message of another daemon
pub record HearsMessage (old : DeskState) (said : Message) (what : Hearing) (new : DeskState) : Type 0 where
  pub reaction : Reaction
  pub daemon : DaemonState
  pub hears : HearsSo old.manifest old.limit old.daemon said reaction daemon
  pub tells : IsTold reaction what
  pub becomes : new ≡ with_daemon old daemon

-- memory was refused for data that was to be made, or to be read and restored; and nothing changes
pub record LacksMemory (old : DeskState) (said : Message) (what : Hearing) (new : DeskState) : Type 0 where
  pub wanted : brings_data (heard old.daemon.node (Hear said)) ≡ true
  pub told : what ≡ hearing.NoMemory
  pub unchanged : new ≡ old

-- the result `what` is this one, and nothing changes
pub record Stays {X : Type 0} (old : DeskState) (is what : X) (new : DeskState) : Type 0 where
  pub told : what ≡ is
  pub unchanged : new ≡ old

-- a message of a takeover is heard, or lacks memory; any other frame closes the connection
abbrev pub Hears : DeskState → Frame → Hearing → DeskState → Type 0
Hears old (frame.Takeover said) what new = HearsMessage old said what new ⊎ LacksMemory old said what new
Hears old other what new = Stays old hearing.Closes what new

-- a frame brings an image, or the first part of one, and that names another manifest
abbrev pub BringsAnother : Manifest → Frame → Type 0
BringsAnother manifest (frame.Takeover (message.Data session generation bytes)) = NamesAnother manifest bytes
BringsAnother manifest (frame.Takeover (message.Part session generation position count bytes)) =
    (position ≡ 1) × NamesAnother manifest bytes
BringsAnother manifest other = ⊥

-- ---- a mount

-- the result of the broker's answer to a Mount; a frame that is no such answer is Broken
abbrev pub mounting_of : Frame → Mounting
mounting_of (frame.Mounted generation) = mounting.Serves generation
mounting_of frame.Seated = mounting.Seated
mounting_of frame.LastGeneration = mounting.LastGeneration
mounting_of frame.Ended = mounting.Ended
mounting_of other = mounting.Broken

-- the generation at which the daemon serves after a Mount, if it serves
abbrev pub mounted_at : Mounting → Option ℕ
mounted_at (mounting.Serves generation) = Some generation
mounted_at other = None

-- the daemon takes the seat at a generation, and serves what was prepared
pub record MountsAt (generation : ℕ) (served : ServedState) (old : DeskState) (what : Mounting)
    (new : DeskState) : Type 0 where
  pub daemon : DaemonState
  pub mounts : MountsSo generation (beginning generation served) old.daemon daemon
  pub told : what ≡ mounting.Serves generation
  pub becomes : new ≡ record old { daemon = daemon; prepared = None }

-- what the daemon would serve if it mounted: what it prepared, while it may mount
abbrev pub mountable : DeskState → Option ServedState
mountable desk = if is_waiting desk.daemon then desk.prepared else None

-- the daemon takes in the broker's answer to a Mount, with what it would serve, if it may mount
abbrev pub MountsWith : Option ServedState → DeskState → Frame → Mounting → DeskState → Type 0
MountsWith (Some served) old (frame.Mounted generation) what new = MountsAt generation served old what new
MountsWith (Some served) old answer what new = Stays old (mounting_of answer) what new
MountsWith None old answer what new = Stays old mounting.Broken what new

-- the daemon takes in the broker's answer to a Mount
abbrev pub Mounts : DeskState → Frame → Mounting → DeskState → Type 0
Mounts old answer what new = MountsWith (mountable old) old answer what new

-- ---- what workers have

-- the generation at which workers may take, if they may
abbrev pub taking_at : Phase → Option ℕ
taking_at (Serving generation) = Some generation
taking_at (Draining generation session version) = Some generation
taking_at phase = None

-- whether a takeover waits until the hand is empty
abbrev pub is_draining : Phase → Bool
is_draining (Draining generation session version) = true
is_draining phase = false

-- what may be lent: what the daemon serves, if workers may take; a daemon whose server is lent serves nothing
abbrev pub lendable_at : Option ℕ → Option ServerState → Option ServerState
lendable_at (Some generation) server = server
lendable_at None server = None

abbrev pub lendable : DeskState → Option ServerState
lendable desk = lendable_at (taking_at desk.daemon.node.phase) desk.daemon.server

-- the desk after the server was lent, if there was one to lend
abbrev pub lent_by : DeskState → Option ServerState → DeskState
lent_by desk (Some server) = record desk { daemon = record desk.daemon { server = None }; is_lent = true }
lent_by desk None = desk

abbrev pub lent : DeskState → DeskState
lent desk = lent_by desk (lendable desk)

-- whether workers may take at this generation
abbrev pub is_generation : Option ℕ → ℕ → Bool
is_generation (Some taking) generation = generation == taking
is_generation None generation = false

-- whether what is served is lent, at this generation
abbrev pub is_lent_at : DeskState → ℕ → Bool
is_lent_at desk generation = desk.is_lent && is_generation (taking_at desk.daemon.node.phase) generation

-- the desk after a server came back: the server is served on if it was lent at its generation, and else dropped
abbrev pub returned_to : Bool → DeskState → ServerState → DeskState
returned_to true desk server = record desk { daemon = with_server desk.daemon server; is_lent = false }
returned_to false desk server = desk

abbrev pub returned : DeskState → ServerState → DeskState
returned desk server = returned_to (is_lent_at desk server.generation) desk server

-- ---- a drain

-- the frame for a drain's result: the one that says that the daemon is ready, or none if the drain is refused
abbrev pub IsReadied : Result Reaction DrainFault → Option Frame → Type 0
IsReadied (Ok (reaction.Says said [])) told = told ≡ Some (frame.Takeover said)
IsReadied (Ok other) told = ⊥
IsReadied (Err fault) told = told ≡ None

-- the daemon says that it is ready to hand over, if it drains
pub record DrainsNow (old : DeskState) (told : Option Frame) (new : DeskState) : Type 0 where
  pub result : Result Reaction DrainFault
  pub daemon : DaemonState
  pub drains : DrainsSo old.daemon result daemon
  pub tells : IsReadied result told
  pub becomes : new ≡ with_daemon old daemon

abbrev pub DrainsWhile : Bool → DeskState → Option Frame → DeskState → Type 0
DrainsWhile true old told new = Stays old None told new
DrainsWhile false old told new = DrainsNow old told new

-- the daemon says that it is ready to hand over, if it drains and nothing is lent
abbrev pub Drains : DeskState → Option Frame → DeskState → Type 0
Drains old told new = DrainsWhile old.is_lent old told new

-- the frame that says that the daemon is ready, exactly if it drains and nothing is lent
abbrev pub ready_in : Bool → Phase → Option Frame
ready_in false (Draining generation session version) = Some (frame.Takeover (message.Ready session generation))
ready_in lent phase = None

abbrev pub ready_of : DeskState → Option Frame
ready_of desk = ready_in desk.is_lent desk.daemon.node.phase

-- ---- the end of a takeover

-- the frame of a reaction that says one message at most
abbrev pub IsSaid : Reaction → Option Frame → Type 0
IsSaid reaction.Ignores told = told ≡ None
IsSaid reaction.Accepts told = told ≡ None
IsSaid (reaction.Says said []) told = told ≡ Some (frame.Takeover said)
IsSaid (reaction.Says said (other ∷ others)) told = ⊥

-- the daemon gives its part in a takeover up
pub record GivesUp (old : DeskState) (told : Option Frame) (new : DeskState) : Type 0 where
  pub reaction : Reaction
  pub daemon : DaemonState
  pub gives_up : GivesUpSo old.daemon reaction daemon
  pub says : IsSaid reaction told
  pub becomes : new ≡ with_daemon old daemon

-- ---- a claim

-- the frame of the claim that the daemon wants to make
abbrev pub claim_frame : ℕ → Frame
claim_frame generation = frame.Claim generation

abbrev pub claim_of : DeskState → Option Frame
claim_of desk = option_map claim_frame (claim_wanted desk.daemon.node.phase)

-- the answer to a Claim that a frame is, if it is one
abbrev pub claim_answer : Frame → Option (Result ℕ ClaimFault)
claim_answer (frame.Claimed generation) = Some (Ok generation)
claim_answer (frame.Unanswered asks) = Some (Err (claim.Unanswered asks))
claim_answer (frame.Stale now) = Some (Err (claim.Stale now))
claim_answer frame.Ended = Some (Err claim.Ended)
claim_answer frame.LastGeneration = Some (Err claim.LastGeneration)
claim_answer other = None

-- the result of the answer to a Claim
abbrev pub claiming_of : Result ℕ ClaimFault → Claiming
claiming_of (Ok generation) = claiming.Serves generation
claiming_of (Err (claim.Unanswered asks)) = claiming.Waits
claiming_of (Err (claim.Stale now)) = claiming.Stale
claiming_of (Err claim.Ended) = claiming.Ended
claiming_of (Err claim.LastGeneration) = claiming.LastGeneration

-- the generation at which the daemon serves after a Claim, if it serves
abbrev pub claimed_at : Claiming → Option ℕ
claimed_at (claiming.Serves generation) = Some generation
claimed_at other = None

-- the daemon takes in the answer to its Claim
pub record ClaimsBy (answer : Result ℕ ClaimFault) (old : DeskState) (what : Claiming) (new : DeskState) : Type 0 where
  pub daemon : DaemonState
  pub claims : ClaimsSo answer old.daemon daemon
  pub told : what ≡ claiming_of answer
  pub becomes : new ≡ with_daemon old daemon

-- the daemon takes the answer in, if it wants to claim and the frame was an answer to a Claim; else the result is
-- Broken
abbrev pub ClaimsFrom : Option ℕ → Option (Result ℕ ClaimFault) → DeskState → Claiming → DeskState → Type 0
ClaimsFrom (Some generation) (Some answer) old what new = ClaimsBy answer old what new
ClaimsFrom wanted answer old what new = Stays old claiming.Broken what new

-- the daemon takes in the broker's answer to a Claim
abbrev pub Claims : DeskState → Frame → Claiming → DeskState → Type 0
Claims old answer what new =
    ClaimsFrom (claim_wanted old.daemon.node.phase) (claim_answer answer) old what new
