-- What a broker does and prints by its script. (This project's own.)
use Rattle.std.specs.Prelude.{◌≡◌, ⊤, ℕ, List, [], ◌∷◌, Option, Some, Result, Ok, Err, codes}
use Rattle.std.specs.Io.KnownBytes.{Appends}
use Rattle.broker_core.specs.Broker.{BrokerState}
use Rattle.broker_desk.specs.Desk.{DeskState}
use Rattle.broker_script.specs.Beginning.{Begins}
use Rattle.broker_script.specs.Looking.{come}
use Rattle.broker_script.specs.Printed.{PrintsBegun, came_lines}
use Rattle.broker_script.specs.declared.awaited.Awaited.{Awaited}
use Rattle.broker_script.specs.declared.awaited.Came.{Came}
use Rattle.broker_script.specs.declared.line.BegunLine.{BegunLine}
use Rattle.broker_script.specs.declared.line.BegunLine.TheVariants.{Waits}
use Rattle.script_lines.specs.declared.broker_line.BrokerLine.{BrokerLine}
use Rattle.broker_process.specs.declared.fault.BrokerFault.{BrokerFault}
use Rattle.broker_process.specs.declared.fault.BrokerFault.TheVariants.{CannotWrite}

-- Daemons change the desk between these steps, so each definition below speaks of the desk as its own step found it.

-- `begun` is the immediate result of the line of the script, over some state of the desk
abbrev pub Began : BrokerLine → BegunLine → Type 0
Began line begun = (before : DeskState) × (after : DeskState) × Begins before line begun after

-- `came` is what came, over some state of the desk, of what is awaited
abbrev pub HasCome : Awaited → Came → Type 0
HasCome awaited came = (state : DeskState) × (come state.broker awaited ≡ Some came)

-- what is appended once a line was begun: the lines of what it awaited, or nothing if it awaits nothing
abbrev pub PrintsCome : BegunLine → Option (List ℕ) → Option (List ℕ) → Type 0
PrintsCome (Waits awaited) old new = (came : Came) × HasCome awaited came × Appends old new (came_lines came)
PrintsCome begun old new = Appends old new []

-- one line of the script was done, and its result was printed
pub record PlaysLine (line : BrokerLine) (old new : Option (List ℕ)) : Type 0 where
  pub begun : BegunLine
  pub began : Began line begun
  pub broker : BrokerState
  pub mid : Option (List ℕ)
  pub begins : PrintsBegun broker begun old mid
  pub comes : PrintsCome begun mid new

-- each of the lines was done and its result printed, one after the other
abbrev pub PlaysLines : List BrokerLine → Option (List ℕ) → Option (List ℕ) → Type 0
PlaysLines [] old new = Appends old new []
PlaysLines (line ∷ more) old new = (mid : Option (List ℕ)) × PlaysLine line old mid × PlaysLines more mid new

-- the whole script was played, the mount was over then, and `ended` was printed
abbrev pub PlaysScript : List BrokerLine → Option (List ℕ) → Option (List ℕ) → Type 0
PlaysScript script old new =
    (mid : Option (List ℕ)) × PlaysLines script old mid × Appends mid new (codes "ended\n")

-- A broker that ends well played its script, and one that ends by a fault printed nothing. If a line could not be
-- printed, nothing is said of what was printed: the lines before it, and perhaps a part of it.
abbrev pub RunsBroker : List BrokerLine → Result (Unit {0}) BrokerFault → Option (List ℕ) → Option (List ℕ) → Type 0
RunsBroker script (Ok done) old new = PlaysScript script old new
RunsBroker script (Err (CannotWrite error)) old new = ⊤
RunsBroker script (Err fault) old new = Appends old new []
