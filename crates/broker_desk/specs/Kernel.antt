-- The asks of a real kernel at the broker's desk. The kernel numbers its requests itself (linux/fuse.h: unique), and the
-- desk numbers asks anew, so each ask under way has a pair of uniques. (The pairs are this project's own.)
use Rattle.std.specs.Prelude.{◌≡◌, ℕ, ◌≤◌, ◌⊎◌, Bool, false, ◌==◌, List, [], ◌∷◌, ◌++◌, length, remove, slice_get, Result, Ok, Err, Some, None, is_none}
use Rattle.std.specs.List.{position_from}
use Rattle.fuse_wire.specs.declared.reply.Answer.{Answer}
use Rattle.fuse_wire.specs.declared.reply.Reply.{Reply}
use Rattle.fuse_wire.specs.declared.request.Ask.{Ask}
use Rattle.broker_core.specs.Broker.{delivered, issue_fault, issued, IsDeliverRefusal, IsIssueRefusal}
use Rattle.broker_core.specs.Traffic.{front}
use Rattle.broker_core.specs.declared.broker.IssueFault.{IssueFault}
use Rattle.broker_core.specs.declared.broker.IssueFault.TheVariants.{Full}
use Rattle.broker_core.specs.declared.fault.DeliverFault.{DeliverFault}
use Rattle.broker_desk.specs.Changed.{changed_by, kept_of, Adds, AddsSome}
use Rattle.broker_desk.specs.Desk.{DeskState}
use Rattle.mount_wire.specs.declared.kept.Kept.{Kept}
use Rattle.broker_desk.specs.declared.kernel.Delivered.{Delivered}
use Rattle.broker_desk.specs.declared.kernel.Delivered.TheVariants.{Reply as AReply, Unasked}
use Rattle.broker_desk.specs.declared.pair.Pair.{Pair}

-- ---- a kernel

-- what a kernel asked that is under way, and the numbers of the directories that changed
pub record KernelState : Type 0 where
  pub pairs : List Pair
  pub changed : List ℕ

-- a kernel that asked for nothing
abbrev pub new_kernel : KernelState
new_kernel = record { pairs = []; changed = [] }

-- ---- asks

-- the pair of an ask, as the desk takes it next
abbrev pub pair_of : DeskState → List ℕ → Ask → Pair
pair_of desk changed ask = record { kernel = ask.unique; desk = desk.broker.next_unique; kept = kept_of changed ask.what }

-- the ask is issued at the desk, and noted behind those that are under way; from now on what it may change has changed
pub record IsAsked (old : DeskState) (kernel : KernelState) (ask : Ask) (new : DeskState) (after : KernelState) : Type 0 where
  pub accepted : issue_fault old.broker ask.what ≡ None
  pub desk : new ≡ record old { broker = issued old.broker ask.what }
  pub noted : after.pairs ≡ kernel.pairs ++ pair_of old kernel.changed ask ∷ []
  pub changed : Adds kernel.changed (changed_by ask.what) after.changed

-- why an ask is refused: the desk refuses it, or a daemon has the seat and all pairs are in use. Without a daemon that is
-- told first: no pair ever comes free then.
abbrev pub IsAskRefusal : DeskState → KernelState → Ask → IssueFault → Type 0
IsAskRefusal desk kernel ask Full =
    ((is_none desk.broker.seat ≡ false) × (1024 ≤ length kernel.pairs)) ⊎ IsIssueRefusal desk.broker ask.what Full
IsAskRefusal desk kernel ask fault = IsIssueRefusal desk.broker ask.what fault

-- the ask is refused for this cause, and nothing changes; only what it may change may count as changed already
pub record IsAskRefused (old : DeskState) (kernel : KernelState) (ask : Ask) (fault : IssueFault) (new : DeskState) (after : KernelState) : Type 0 where
  pub cause : IsAskRefusal old kernel ask fault
  pub unchanged : new ≡ old
  pub unnoted : after.pairs ≡ kernel.pairs
  pub changed : AddsSome kernel.changed (changed_by ask.what) after.changed

-- what becomes of an ask of the kernel
abbrev pub Asks : DeskState → KernelState → Ask → Result (Unit {0}) IssueFault → DeskState → KernelState → Type 0
Asks old kernel ask (Ok done) new after = IsAsked old kernel ask new after
Asks old kernel ask (Err fault) new after = IsAskRefused old kernel ask fault new after

-- ---- replies

-- the ask has this unique of the desk
abbrev pub has_desk : ℕ → Pair → Bool
has_desk unique pair = pair.desk == unique

-- the first posted reply leaves the desk, with the kernel's unique of the ask that it answers, whose pair leaves
pub record IsReply (old : DeskState) (kernel : KernelState) (told : Reply) (kept : Kept) (new : DeskState) (after : KernelState) : Type 0 where
  pub reply : Reply
  pub first : front old.broker.traffic.posted ≡ Some reply
  pub index : ℕ
  pub found : position_from (has_desk reply.unique) 0 kernel.pairs ≡ Some index
  pub pair : Pair
  pub at : slice_get kernel.pairs index ≡ Some pair
  pub told_is : told ≡ record { unique = pair.kernel; answer = reply.answer }
  pub kept_is : kept ≡ pair.kept
  pub left : after ≡ record kernel { pairs = remove kernel.pairs index }
  pub desk : new ≡ record old { broker = delivered old.broker }

-- the first posted reply leaves the desk, and no ask of the kernel has its unique
pub record IsUnasked (old : DeskState) (kernel : KernelState) (answer : Answer) (new : DeskState) (after : KernelState) : Type 0 where
  pub reply : Reply
  pub first : front old.broker.traffic.posted ≡ Some reply
  pub nobody : position_from (has_desk reply.unique) 0 kernel.pairs ≡ None
  pub answer_is : answer ≡ reply.answer
  pub desk : new ≡ record old { broker = delivered old.broker }
  pub unchanged : after ≡ kernel

-- nothing is delivered, and nothing changes
pub record IsKept (old : DeskState) (kernel : KernelState) (new : DeskState) (after : KernelState) : Type 0 where
  pub desk : new ≡ old
  pub unchanged : after ≡ kernel

-- what there is to deliver
abbrev pub Delivers : DeskState → KernelState → Result Delivered DeliverFault → DeskState → KernelState → Type 0
Delivers old kernel (Ok (AReply told kept)) new after = IsReply old kernel told kept new after
Delivers old kernel (Ok (Unasked answer)) new after = IsUnasked old kernel answer new after
Delivers old kernel (Err fault) new after = IsDeliverRefusal old.broker fault × IsKept old kernel new after
