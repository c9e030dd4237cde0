-- The issue and the take of a `do`, which the daemon makes in one call. (This project's own.)
use Rattle.std.specs.Prelude.{◌≢◌, ◌≤◌, Bool, true, false, List, ◌∷◌, ◌++◌, length}
use Rattle.eden_base.specs.declared.number.DaemonId.{DaemonId}
use Rattle.fuse_wire.specs.declared.request.Request.{Request}
use Rattle.daemon.specs.declared.happened.Happened.{Happened}
use Rattle.daemon.specs.declared.happened.Happened.TheVariants.{Refused}
use Rattle.daemon.specs.declared.happened.Refusal.TheVariants.{NoMemory}
use Rattle.world.specs.State.{State}
use Rattle.world.specs.Step.{Carries, HasRoom}
use Rattle.world.specs.declared.event.Event.{Event}
use Rattle.world.specs.declared.event.Event.TheVariants.{Issue, Take}

-- all events before `rest` were made, and an outcome of `rest` completes what is told of them
abbrev pub Goes : State → List Event → List Happened → State → List Event → Type 0
Goes old events told now rest =
    (outcome : List Happened) (new : State) → Carries now rest outcome new → Carries old events (told ++ outcome) new

-- two things happened at least, and the second was not refused as out of memory
abbrev pub HasTwo : List Happened → Type 0
HasTwo (asked ∷ taken ∷ later) = taken ≢ Refused NoMemory
HasTwo outcome = ⊥

-- true: the issue and the take were made, and whatever events come next go on from there; false: one of them was
-- refused, and the list ends there, whatever events come next
abbrev pub Begins : State → Request → DaemonId → Bool → List Happened → State → Type 0
Begins old request daemon true outcome new =
    (length outcome ≤ 2) × HasTwo outcome × ((events : List Event) → Goes old (Issue request ∷ Take daemon ∷ events) outcome new events)
Begins old request daemon false outcome new =
    HasRoom outcome × ((events : List Event) → Carries old (Issue request ∷ Take daemon ∷ events) outcome new)
