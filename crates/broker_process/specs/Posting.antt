-- What becomes of posted replies where a kernel's mount is served, and of numbers that the kernel did not take. (This project's own.)
use Rattle.std.specs.Arc.{arc_value}
use Rattle.std.specs.Prelude.{◌≡◌, ℕ, ◌==◌, Bool, true, false, List, ◌++◌, ◌∷◌, [], Option, Some, None, Result, Ok, Err}
use Rattle.eden_base.specs.declared.number.Number.{Number}
use Rattle.broker_core.specs.declared.broker.IssueFault.{IssueFault}
use Rattle.broker_core.specs.declared.broker.IssueFault.TheVariants.{Full, NoMemory}
use Rattle.broker_core.specs.declared.fault.DeliverFault.TheVariants.{Empty}
use Rattle.broker_desk.specs.Desk.{DeskState}
use Rattle.broker_desk.specs.Forgets.{TakesBack}
use Rattle.broker_desk.specs.Kernel.{Delivers as DeskDelivers, IsKept, KernelState}
use Rattle.frames.specs.declared.frame.Frame.{Frame}
use Rattle.frames.specs.declared.frame.Frame.TheVariants.{Posted}
use Rattle.broker_process.specs.declared.delivery.Delivery.{Delivery}
use Rattle.broker_process.specs.declared.delivery.ReplyWriter.{ReplyWriter}
use Rattle.broker_process.specs.declared.shared_desk.mounted.Posting.{Posting}
use Rattle.broker_process.specs.declared.shared_desk.mounted.Posting.TheVariants.{Nothing, Delivers, Waits}

-- ---- replies

-- both write to the same device, for the same mount
pub record SameWriter (writer other : ReplyWriter) : Type 0 where
  pub began : writer.began ≡ other.began
  pub device : arc_value writer.device ≡ arc_value other.device
  pub own : writer.own ≡ other.own

-- What becomes of the replies that are posted, where they are written by this writer: the first of them is to be written, none
-- waits, or all wait on since memory was refused. Where no mount is served, all stay.
abbrev pub Posts : Option ReplyWriter → DeskState → KernelState → Posting → DeskState → KernelState → Type 0
Posts (Some writer) old kernel (Delivers delivery) new after =
    SameWriter delivery.writer writer × DeskDelivers old kernel (Ok delivery.delivered) new after
Posts (Some writer) old kernel Nothing new after = DeskDelivers old kernel (Err Empty) new after
Posts (Some writer) old kernel Waits new after = IsKept old kernel new after
Posts None old kernel Nothing new after = IsKept old kernel new after
Posts None old kernel posting new after = ⊥

-- the same behind the answer to a frame: nothing is looked for unless it says that a reply is posted
abbrev pub PostsBehind : Option Frame → Option ReplyWriter → DeskState → KernelState → Posting → DeskState → KernelState → Type 0
PostsBehind (Some Posted) writer old kernel posting new after = Posts writer old kernel posting new after
PostsBehind told writer old kernel Nothing new after = IsKept old kernel new after
PostsBehind told writer old kernel posting new after = ⊥

-- what the thread that found this delivers
abbrev pub delivery_of : Posting → Option Delivery
delivery_of (Delivers delivery) = Some delivery
delivery_of posting = None

-- whether replies wait for another thread
abbrev pub is_left : Posting → Bool
is_left Waits = true
is_left posting = false

-- ---- numbers that the kernel did not take

-- whether the mount is served that began at this generation
abbrev pub is_served : ℕ → Option ReplyWriter → Bool
is_served began (Some writer) = writer.began == began
is_served began None = false

-- whether the number of a reply that the kernel did not take was noted behind the others
abbrev pub IsNoted : Bool → Number → List Number → List Number → Type 0
IsNoted true given old new = new ≡ old ++ given ∷ []
IsNoted false given old new = new ≡ old

-- what becomes of such a number, by what the desk says to its forget: where that is refused for now, the number is noted, if memory
-- for that suffices
abbrev pub Notes : Result (Unit {0}) IssueFault → Number → Bool → List Number → List Number → Type 0
Notes (Err Full) given noted old new = IsNoted noted given old new
Notes (Err NoMemory) given noted old new = IsNoted noted given old new
Notes other given noted old new = (noted ≡ true) × (new ≡ old)

-- the number of a reply that the kernel did not take was forgotten once at the desk, or noted
abbrev pub GivesBack : Number → Bool → DeskState → DeskState → List Number → List Number → Type 0
GivesBack given noted old new list after =
    (said : Result (Unit {0}) IssueFault) × TakesBack old (Some given) said new × Notes said given noted list after

-- the same where the mount of that reply is served, and nothing where it is over: no kernel holds a number of it any more
abbrev pub GivesBackFor : Bool → Number → Bool → DeskState → DeskState → List Number → List Number → Type 0
GivesBackFor true given noted old new list after = GivesBack given noted old new list after
GivesBackFor false given noted old new list after = (noted ≡ true) × (new ≡ old) × (after ≡ list)
