-- What each line of a broker's script does at once. (This project's own.)
use Rattle.std.specs.Prelude.{◌≡◌, ℕ, Option, Some, None}
use Rattle.broker_core.specs.Broker.{issue_fault, issued, unique_of, IsIssueRefusal}
use Rattle.broker_core.specs.declared.broker.IssueFault.{IssueFault}
use Rattle.broker_desk.specs.Desk.{DeskState}
use Rattle.fuse_wire.specs.declared.request.Request.{Request}
use Rattle.fuse_wire.specs.declared.request.Request.TheVariants as request
use Rattle.script_lines.specs.declared.broker_line.BrokerLine.{BrokerLine}
use Rattle.script_lines.specs.declared.broker_line.BrokerLine.TheVariants.{Ask, Forget, Seat, Idle, Held}
use Rattle.broker_script.specs.declared.awaited.Awaited.TheVariants as awaited
use Rattle.broker_script.specs.declared.line.BegunLine.{BegunLine}
use Rattle.broker_script.specs.declared.line.BegunLine.TheVariants.{Waits, Forgot, Refused, Tells}

-- the result of an issued request: an ask waits for the reply to its unique, and a forget for nothing
abbrev pub begun_by : Option ℕ → BegunLine
begun_by (Some unique) = Waits (awaited.Reply unique)
begun_by None = Forgot

-- the kernel's request is issued, and waits for a daemon
pub record IsTaken (old : DeskState) (request : Request) (begun : BegunLine) (new : DeskState) : Type 0 where
  pub accepted : issue_fault old.broker request ≡ None
  pub begun_is : begun ≡ begun_by (unique_of old.broker request)
  pub desk : new ≡ record old { broker = issued old.broker request }

-- the kernel's request is refused, and nothing changes
pub record IsRefused (old : DeskState) (request : Request) (fault : IssueFault) (new : DeskState) : Type 0 where
  pub refusal : IsIssueRefusal old.broker request fault
  pub unchanged : new ≡ old

-- the kernel's request is issued or refused
abbrev pub Issues : DeskState → Request → BegunLine → DeskState → Type 0
Issues old request (Refused fault) new = IsRefused old request fault new
Issues old request begun new = IsTaken old request begun new

-- the result is the expected one, and nothing changes
pub record Stands (old : DeskState) (expected begun : BegunLine) (new : DeskState) : Type 0 where
  pub begun_is : begun ≡ expected
  pub unchanged : new ≡ old

-- a line begins, with this result and this desk after it
abbrev pub Begins : DeskState → BrokerLine → BegunLine → DeskState → Type 0
Begins old (Ask request) begun new = Issues old request begun new
Begins old (Forget item) begun new = Issues old (request.Forget item) begun new
Begins old (Seat generation) begun new = Stands old (Waits (awaited.Seat generation)) begun new
Begins old Idle begun new = Stands old (Waits awaited.Idle) begun new
Begins old Held begun new = Stands old Tells begun new
