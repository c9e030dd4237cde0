-- The forgets of a real kernel at the broker's desk (linux/fuse.h: FORGET, BATCH_FORGET). The desk takes each item by
-- itself, and hands items out in batches.
use Rattle.std.specs.Prelude.{◌≡◌, Option, Some, None, Result, Ok, Err}
use Rattle.eden_base.specs.declared.number.Number.{Number}
use Rattle.fuse_wire.specs.declared.item.Item.{Item}
use Rattle.fuse_wire.specs.declared.request.Request.TheVariants.{Forget}
use Rattle.broker_core.specs.Broker.{issue_fault, issued, IsIssueRefusal}
use Rattle.broker_core.specs.declared.broker.IssueFault.{IssueFault}
use Rattle.broker_desk.specs.Desk.{DeskState}

-- the forget is issued at the desk
pub record IsForgotten (old : DeskState) (item : Item) (new : DeskState) : Type 0 where
  pub accepted : issue_fault old.broker (Forget item) ≡ None
  pub desk : new ≡ record old { broker = issued old.broker (Forget item) }

-- the forget is refused for this cause, and nothing changes
pub record IsForgetRefused (old : DeskState) (item : Item) (fault : IssueFault) (new : DeskState) : Type 0 where
  pub cause : IsIssueRefusal old.broker (Forget item) fault
  pub unchanged : new ≡ old

-- what becomes of a forget of the kernel
abbrev pub Forgets : DeskState → Item → Result (Unit {0}) IssueFault → DeskState → Type 0
Forgets old item (Ok done) new = IsForgotten old item new
Forgets old item (Err fault) new = IsForgetRefused old item fault new

-- a reply that the kernel did not want gives this number out, which is forgotten once; or it gives none out
abbrev pub TakesBack : DeskState → Option Number → Result (Unit {0}) IssueFault → DeskState → Type 0
TakesBack old (Some number) result new = Forgets old (record { node = number; k = 1 }) result new
TakesBack old None result new = (result ≡ Ok tt) × (new ≡ old)
