-- Whether what a line waits for came, and what came. (This project's own.)
use Rattle.std.specs.Prelude.{◌≡◌, ℕ, ◌==◌, ◌⊎◌, not, nat_le, length, Option, Some, None, if◌then◌else◌}
use Rattle.broker_core.specs.Broker.{BrokerState, delivered, IsNewNumber}
use Rattle.broker_core.specs.Traffic.{TrafficState, front, is_under_way}
use Rattle.broker_core.specs.declared.seat.Seat.{Seat as ASeat}
use Rattle.broker_desk.specs.Desk.{DeskState}
use Rattle.fuse_wire.specs.declared.reply.Reply.{Reply as AReply}
use Rattle.broker_script.specs.declared.awaited.Awaited.{Awaited}
use Rattle.broker_script.specs.declared.awaited.Awaited.TheVariants.{Reply, Seat, Idle}
use Rattle.broker_script.specs.declared.awaited.Came.{Came}
use Rattle.broker_script.specs.declared.awaited.Came.TheVariants as came

-- the first posted reply, if it is the reply to the ask with this unique
abbrev pub answered_by : ℕ → Option AReply → Option Came
answered_by unique None = None
answered_by unique (Some reply) = if reply.unique == unique then Some (came.Answered reply) else None

-- What came for an ask, if anything did. An ask that is not under way any more is lost: the mount ended. Else its reply
-- comes once it is the first posted one.
abbrev pub reply_come : TrafficState → ℕ → Option Came
reply_come traffic unique =
    if not (is_under_way traffic unique) then Some (came.Lost unique)
    else answered_by unique (front traffic.posted)

-- the seat's generation, if it is this one or a later one
abbrev pub seat_come : Option ASeat → ℕ → Option Came
seat_come None generation = None
seat_come (Some seat) generation =
    if nat_le generation seat.generation then Some (came.Seat seat.generation) else None

-- `Idle`, if no item waits for a daemon
abbrev pub idle_come : TrafficState → Option Came
idle_come traffic = if length traffic.items == 0 then Some came.Idle else None

-- what came of what is awaited, if anything did
abbrev pub come : BrokerState → Awaited → Option Came
come broker (Reply unique) = reply_come broker.traffic unique
come broker (Seat generation) = seat_come broker.seat generation
come broker Idle = idle_come broker.traffic

-- the desk after this came: a reply that came was delivered, and nothing else changes the desk
abbrev pub after : DeskState → Option Came → DeskState
after desk (Some (came.Answered reply)) = record desk { broker = delivered desk.broker }
after desk come = desk

-- a look finds what came, if anything did
pub record Finds (old : DeskState) (awaited : Awaited) (found : Option Came) (new : DeskState) : Type 0 where
  pub found_is : found ≡ come old.broker awaited
  pub desk : new ≡ after old found

-- the reply came, but memory to hold its number was refused, and nothing changed
pub record Lacks (old : DeskState) (awaited : Awaited) (found : Option Came) (new : DeskState) : Type 0 where
  pub reply : AReply
  pub there : come old.broker awaited ≡ Some (came.Answered reply)
  pub unheld : IsNewNumber old.broker
  pub found_is : found ≡ Some came.Lacks
  pub unchanged : new ≡ old

-- what a look finds, with the desk after it
abbrev pub Looks : DeskState → Awaited → Option Came → DeskState → Type 0
Looks old awaited found new = Finds old awaited found new ⊎ Lacks old awaited found new
