-- What a daemon's calls do to the daemon and to the kernel's side, and for which fault they are refused. (This
-- project's own.)
use Rattle.std.specs.Prelude.{◌≡◌, ℕ, ◌-◌, ◌==◌, ◌<◌, ◌≤◌, ◌⊎◌, ◌↔◌, Bool, true, false, [], Option, Some, None}
use Rattle.eden_base.specs.declared.errno.Errno.TheVariants.{EIO}
use Rattle.eden_base.specs.declared.number.DaemonId.{DaemonId}
use Rattle.broker_core.specs.Broker.{BrokerState, take_fault, taken, post_fault, posted}
use Rattle.broker_core.specs.Traffic.{next_taken}
use Rattle.broker_core.specs.declared.fault.TakeFault.{TakeFault}
use Rattle.broker_core.specs.declared.fault.PostFault.{PostFault}
use Rattle.fuse_wire.specs.declared.request.Ask.{Ask}
use Rattle.fuse_wire.specs.declared.request.Request.{Request}
use Rattle.fuse_wire.specs.declared.reply.Answer.{Answer}
use Rattle.fuse_wire.specs.declared.reply.Answer.TheVariants.{Error}
use Rattle.fuse_wire.specs.declared.reply.Reply.{Reply}
use Rattle.fuse_ops.specs.Loading.{AsksBacking}
use Rattle.fuse_ops.specs.Served.{ServedState, Replay}
use Rattle.daemon.specs.Server.{ServerState, at_position, told_taken, with_taken, told_worked, with_worked, with_posted}
use Rattle.takeover_core.specs.Phases.{may_take}
use Rattle.daemon.specs.Daemon.{DaemonState, with_server}
use Rattle.daemon.specs.Refusals.{refusal_of_take, refusal_of_post}
use Rattle.daemon.specs.declared.happened.Happened.{Happened}
use Rattle.daemon.specs.declared.happened.Happened.TheVariants.{Refused, Posted}
use Rattle.daemon.specs.declared.happened.Refusal.{Refusal}
use Rattle.daemon.specs.declared.happened.Refusal.TheVariants.{NoSuch, NoMemory, WrongPhase}

-- ---- positions

-- a list of this count has a member at the position, and the member has this index
pub record IsIndex (count position index : ℕ) : Type 0 where
  pub counted : (position == 0) ≡ false
  pub is : index ≡ position - 1
  pub within : index < count

-- a list of this count has no member at the position
abbrev pub HasNone : ℕ → ℕ → Type 0
HasNone count position = (position ≡ 0) ⊎ (count ≤ position - 1)

-- ---- calls of a serving daemon

-- the server that begins to serve at a generation: its hand is empty
abbrev pub beginning : ℕ → ServedState → ServerState
beginning generation served = record { generation = generation; served = served; hand = []; unposted = [] }

-- a call is refused, and nothing changes
pub record Stays {X : Type 0} (old : X) (broker : BrokerState) (refusal : Refusal) (told : Happened)
    (new : X) (left : BrokerState) : Type 0 where
  pub tells : told ≡ Refused refusal
  pub same : new ≡ old
  pub same_broker : left ≡ broker

-- a take is made: what waits first at the broker joins the hand
pub record TakesFirst (old : ServerState) (broker : BrokerState) (told : Happened)
    (new : ServerState) (left : BrokerState) : Type 0 where
  pub ask : Ask
  pub first : next_taken broker.traffic ≡ Some ask
  pub tells : told ≡ told_taken ask
  pub makes : new ≡ with_taken old ask
  pub leaves : left ≡ taken broker

-- a take is refused for the first fault; without a fault it is made, or refused as out of memory
abbrev pub TakesBy : Option TakeFault → ServerState → BrokerState → Happened → ServerState → BrokerState → Type 0
TakesBy (Some fault) old broker told new left = Stays old broker (refusal_of_take fault) told new left
TakesBy None old broker told new left = TakesFirst old broker told new left ⊎ Stays old broker NoMemory told new left

-- the answer is EIO exactly if the backing fails and the request asks the backing
abbrev pub FailsSo : Bool → ServedState → Request → Option Answer → Type 0
FailsSo fails served request answer = (answer ≡ Some (Error EIO)) ↔ ((fails ≡ true) × AsksBacking served request)

-- the request at a position of the hand is worked
pub record WorksOff (old : ServerState) (position : ℕ) (fails : Bool) (task : Ask) (told : Happened)
    (new : ServerState) : Type 0 where
  pub later : ServedState
  pub answer : Option Answer
  pub replay : Replay old.served task.what answer later
  pub fails_so : FailsSo fails old.served task.what answer
  pub tells : told ≡ told_worked old.served task answer
  pub makes : new ≡ with_worked old position task answer later

-- a call that does not concern the kernel's side is refused, and nothing changes
pub record Keeps {X : Type 0} (old : X) (refusal : Refusal) (told : Happened) (new : X) : Type 0 where
  pub tells : told ≡ Refused refusal
  pub same : new ≡ old

-- the request at a position of the hand is worked, or the call is refused as there is none; the room for a reply was
-- made at the take
abbrev pub WorksBy : Option Ask → ServerState → ℕ → Bool → Happened → ServerState → Type 0
WorksBy None old position fails told new = Keeps old NoSuch told new
WorksBy (Some task) old position fails told new = WorksOff old position fails task told new

-- a reply is posted: it waits for the kernel
pub record PostsOff (old : ServerState) (broker : BrokerState) (position : ℕ) (reply : Reply) (told : Happened)
    (new : ServerState) (left : BrokerState) : Type 0 where
  pub tells : told ≡ Posted reply.unique
  pub makes : new ≡ with_posted old position
  pub leaves : left ≡ posted broker reply

-- a reply is refused for the first fault, or is posted if there is none
abbrev pub PostsReply :
    Option PostFault → ServerState → BrokerState → ℕ → Reply → Happened → ServerState → BrokerState → Type 0
PostsReply (Some fault) old broker position reply told new left = Stays old broker (refusal_of_post fault) told new left
PostsReply None old broker position reply told new left = PostsOff old broker position reply told new left

-- the reply at a position is posted or refused; the call is also refused if there is no such reply
abbrev pub PostsBy :
    Option Reply → ServerState → BrokerState → DaemonId → ℕ → Happened → ServerState → BrokerState → Type 0
PostsBy None old broker daemon position told new left = Stays old broker NoSuch told new left
PostsBy (Some reply) old broker daemon position told new left =
    PostsReply (post_fault broker daemon old.generation reply) old broker position reply told new left

-- ---- calls of a daemon

-- a serving daemon takes what waits first at the broker, or is refused
pub record TakesWith (broker : BrokerState) (daemon : DaemonId) (told : Happened) (left : BrokerState)
    (server : ServerState) (old new : DaemonState) : Type 0 where
  pub later : ServerState
  pub takes : TakesBy (take_fault broker daemon server.generation) server broker told later left
  pub makes : new ≡ with_server old later

abbrev pub TakesIf :
    BrokerState → DaemonId → Happened → BrokerState → Bool → Option ServerState → DaemonState → DaemonState → Type 0
TakesIf broker daemon told left true (Some server) old new = TakesWith broker daemon told left server old new
TakesIf broker daemon told left may server old new = Stays old broker WrongPhase told new left

-- a daemon takes what waits first at the broker, or is refused
abbrev pub DaemonTakes : BrokerState → DaemonId → Happened → BrokerState → DaemonState → DaemonState → Type 0
DaemonTakes broker daemon told left old new =
    TakesIf broker daemon told left (may_take old.node.phase) old.server old new

-- a serving daemon works the request at a position of its hand, or is refused
pub record WorksWith (position : ℕ) (fails : Bool) (told : Happened) (server : ServerState)
    (old new : DaemonState) : Type 0 where
  pub later : ServerState
  pub works : WorksBy (at_position server.hand position) server position fails told later
  pub makes : new ≡ with_server old later

abbrev pub WorksIf : ℕ → Bool → Happened → Option ServerState → DaemonState → DaemonState → Type 0
WorksIf position fails told (Some server) old new = WorksWith position fails told server old new
WorksIf position fails told None old new = Keeps old NoSuch told new

-- a daemon works the request at a position of its hand, or is refused
abbrev pub DaemonWorks : ℕ → Bool → Happened → DaemonState → DaemonState → Type 0
DaemonWorks position fails told old new = WorksIf position fails told old.server old new

-- a serving daemon posts its reply at a position, or is refused
pub record PostsWith (broker : BrokerState) (daemon : DaemonId) (position : ℕ) (told : Happened) (left : BrokerState)
    (server : ServerState) (old new : DaemonState) : Type 0 where
  pub later : ServerState
  pub posts : PostsBy (at_position server.unposted position) server broker daemon position told later left
  pub makes : new ≡ with_server old later

abbrev pub PostsIf :
    BrokerState → DaemonId → ℕ → Happened → BrokerState → Option ServerState → DaemonState → DaemonState → Type 0
PostsIf broker daemon position told left (Some server) old new =
    PostsWith broker daemon position told left server old new
PostsIf broker daemon position told left None old new = Stays old broker NoSuch told new left

-- a daemon posts its reply at a position, or is refused
abbrev pub DaemonPosts : BrokerState → DaemonId → ℕ → Happened → BrokerState → DaemonState → DaemonState → Type 0
DaemonPosts broker daemon position told left old new = PostsIf broker daemon position told left old.server old new
