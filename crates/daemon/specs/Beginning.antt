-- A request that a daemon takes as soon as it is issued. Memory for the take is reserved before the issue, so the take
-- is never refused as out of memory. If there is no memory, the request is not issued. (This project's own.)
use Rattle.std.specs.Prelude.{◌≡◌, ◌≢◌, ℕ, ◌++◌, List, Option, Some, None}
use Rattle.broker_core.specs.Broker.{BrokerState, IsIssueRefusal, issue_fault, issued, unique_of, take_fault, taken}
use Rattle.broker_core.specs.Traffic.{next_taken}
use Rattle.broker_core.specs.declared.broker.IssueFault.{IssueFault}
use Rattle.broker_core.specs.declared.fault.TakeFault.{TakeFault}
use Rattle.fuse_wire.specs.declared.request.Ask.{Ask}
use Rattle.fuse_wire.specs.declared.request.Request.{Request}
use Rattle.eden_base.specs.declared.number.DaemonId.{DaemonId}
use Rattle.daemon.specs.Server.{ServerState, handed, told_taken}
use Rattle.daemon.specs.Serving.{TakesBy, DaemonTakes}
use Rattle.daemon.specs.Daemon.{DaemonState}
use Rattle.daemon.specs.Refusals.{refusal_of_issue, refusal_of_take}
use Rattle.daemon.specs.declared.happened.Begun.{Begun}
use Rattle.daemon.specs.declared.happened.Begun.TheVariants as begun
use Rattle.daemon.specs.declared.happened.Happened.{Happened}
use Rattle.daemon.specs.declared.happened.Happened.TheVariants.{Refused}
use Rattle.daemon.specs.declared.happened.Refusal.{Refusal}
use Rattle.daemon.specs.declared.happened.Refusal.TheVariants.{WrongPhase, NoMemory}

-- ---- a take with room

-- a take is refused, and nothing changes
pub record PutsNothing (hand : List Ask) (broker : BrokerState) (fault : TakeFault) (told : Happened) (now : List Ask)
    (left : BrokerState) : Type 0 where
  pub tells : told ≡ Refused (refusal_of_take fault)
  pub same : now ≡ hand
  pub same_broker : left ≡ broker

-- a take is made: what waits first at the broker joins the hand
pub record PutsFirst (hand : List Ask) (broker : BrokerState) (told : Happened) (now : List Ask)
    (left : BrokerState) : Type 0 where
  pub ask : Ask
  pub first : next_taken broker.traffic ≡ Some ask
  pub tells : told ≡ told_taken ask
  pub puts : now ≡ hand ++ handed ask
  pub leaves : left ≡ taken broker

-- a take that has room is refused for the first fault; without a fault it is made
abbrev pub PutsBy : Option TakeFault → List Ask → BrokerState → Happened → List Ask → BrokerState → Type 0
PutsBy (Some fault) hand broker told now left = PutsNothing hand broker fault told now left
PutsBy None hand broker told now left = PutsFirst hand broker told now left

-- ---- issued and taken

-- a request is not issued, and nothing changes; the refusal is the first cause that holds, out of memory last
pub record IsUnissued (broker : BrokerState) (request : Request) (refusal : Refusal) (left : BrokerState)
    (Unchanged : Type 0) : Type 0 where
  pub fault : IssueFault
  pub is : IsIssueRefusal broker request fault
  pub tells : refusal ≡ refusal_of_issue fault
  pub same : Unchanged
  pub same_broker : left ≡ broker

-- a request is issued, and then the take is made or refused, but not as out of memory
pub record IsIssued (broker : BrokerState) (request : Request) (unique : Option ℕ) (told : Happened)
    (Takes : Type 0) : Type 0 where
  pub accepted : issue_fault broker request ≡ None
  pub asks : unique ≡ unique_of broker request
  pub takes : Takes
  pub has_room : told ≢ Refused NoMemory

-- a request is refused and `Unchanged` holds, or it is issued and `Takes` holds of what is told of the take
abbrev pub BeginsBy : BrokerState → Request → Begun → Type 0 → (Happened → Type 0) → BrokerState → Type 0
BeginsBy broker request (begun.Refused refusal) Unchanged Takes left =
    IsUnissued broker request refusal left Unchanged
BeginsBy broker request (begun.Issued unique told) Unchanged Takes left =
    IsIssued broker request unique told (Takes told)

-- a request is issued, and then a server takes what waits first; or the request is refused
abbrev pub ServerBegins : BrokerState → DaemonId → Request → Begun → BrokerState → ServerState → ServerState → Type 0
ServerBegins broker daemon request begun left old new =
    BeginsBy broker request begun (new ≡ old) (λ told.
    TakesBy (take_fault (issued broker request) daemon old.generation) old (issued broker request) told new left) left

-- a request is issued, and then a daemon takes what waits first; or the request is refused
abbrev pub DaemonBegins : BrokerState → DaemonId → Request → Begun → BrokerState → DaemonState → DaemonState → Type 0
DaemonBegins broker daemon request begun left old new =
    BeginsBy broker request begun (new ≡ old) (λ told. DaemonTakes (issued broker request) daemon told left old new) left

-- a request is issued, and the take is refused as the daemon takes nothing in its phase; or the request is refused
abbrev pub NobodyBegins : BrokerState → Request → Begun → BrokerState → Type 0
NobodyBegins broker request begun left =
    BeginsBy broker request begun (Unit {0}) (λ told. (told ≡ Refused WrongPhase) × (left ≡ issued broker request)) left
