-- Which refusals come in no run, and why not: a daemon that serves has the seat at its own generation, and the broker
-- waits for exactly what the daemon of the seat has to answer. (This project's own.)
use Rattle.std.specs.Prelude.{◌≡◌, ℕ, ◌+◌, Bool, true, false, List, ◌∷◌, sum_by, Option, Some, None, if◌then◌else◌}
use Rattle.std.specs.List.{AllByRecursion}
use Rattle.eden_base.specs.declared.number.DaemonId.{DaemonId}
use Rattle.fuse_wire.specs.Request.{is_ask, form_of}
use Rattle.fuse_wire.specs.declared.form.Form.{Form}
use Rattle.fuse_wire.specs.declared.request.Ask.{Ask}
use Rattle.fuse_wire.specs.declared.reply.Reply.{Reply}
use Rattle.broker_core.specs.Traffic.{TrafficState, form_asked, is_asked}
use Rattle.broker_core.specs.declared.seat.Seat.{Seat}
use Rattle.takeover_core.specs.declared.phase.Phase.{Phase}
use Rattle.takeover_core.specs.declared.phase.Phase.TheVariants.{Serving, Draining, Pinged, Making}
use Rattle.daemon.specs.Daemon.{DaemonState}
use Rattle.daemon.specs.Server.{ServerState}
use Rattle.daemon.specs.declared.happened.Happened.{Happened}
use Rattle.daemon.specs.declared.happened.Happened.TheVariants.{Refused}
use Rattle.daemon.specs.declared.happened.Refusal.{Refusal}
use Rattle.daemon.specs.declared.happened.Refusal.TheVariants.{Ended, Stale, NotAsked, Unanswered}
use Rattle.world.specs.Handing.{part_at}
use Rattle.world.specs.State.{State, daemon_of, IsSeated}
use Rattle.world.specs.declared.event.Event.{Event}
use Rattle.world.specs.declared.event.Event.TheVariants.{Claim}

-- ---- what is told

-- whether an event is a claim
abbrev pub is_claim : Event → Bool
is_claim (Claim daemon) = true
is_claim event = false

-- Whether an event may be refused for this cause. Ended and Stale are told to claims alone, never to a take or a post.
-- NotAsked and Unanswered are told to no event: a claim from the seat's generation comes only once its holder has
-- answered all asks.
abbrev pub may_come : Refusal → Event → Bool
may_come Ended event = is_claim event
may_come (Stale now) event = is_claim event
may_come NotAsked event = false
may_come (Unanswered asks) event = false
may_come refusal event = true

-- this may be told of the event: it is no refusal, or a refusal that may come
abbrev pub MayBeTold : Event → Happened → Type 0
MayBeTold event (Refused refusal) = may_come refusal event ≡ true
MayBeTold event told = Unit {0}

-- each refusal of the events is one that may come
abbrev pub RefusalsMayCome : List Event → List (List Happened) → Type 0
RefusalsMayCome (event ∷ events) (outcome ∷ outcomes) =
    AllByRecursion (MayBeTold event) outcome × RefusalsMayCome events outcomes
RefusalsMayCome events outcomes = Unit {0}

-- ---- who serves

-- the generation at which a daemon in this phase serves, if it serves and its data is not out
abbrev pub serving_at : Phase → Option ℕ
serving_at (Serving g) = Some g
serving_at (Draining g s v) = Some g
serving_at (Pinged g s v) = Some g
serving_at (Making g s v) = Some g
serving_at phase = None

-- What a daemon has to serve is at the generation of its phase. A daemon that serves at a generation has the seat at
-- that generation.
pub record ServesSeated (state : State) (daemon : DaemonId) (was : DaemonState) : Type 0 where
  pub at : (server : ServerState) → was.server ≡ Some server → part_at was.node.phase ≡ Some server.generation
  pub has_seat : (g : ℕ) → serving_at was.node.phase ≡ Some g →
      state.broker.seat ≡ Some (record { generation = g; daemon = daemon })

-- ---- what the broker waits for

-- the measure of an ask's unique; 0 for a forget, which has none
abbrev pub of_ask : (ℕ → ℕ) → Ask → ℕ
of_ask measure task = if is_ask task.what then measure task.unique else 0

-- the measure of a reply's unique
abbrev pub of_reply : (ℕ → ℕ) → Reply → ℕ
of_reply measure reply = measure reply.unique

-- the measure of a taken ask's unique
abbrev pub of_taken : (ℕ → ℕ) → ℕ × Form → ℕ
of_taken measure asked = measure asked.0

-- if the request is an ask, the broker has it as taken and without a reply, with the form that its answer must have
abbrev pub IsWaitedFor : TrafficState → Ask → Type 0
IsWaitedFor traffic task = is_ask task.what ≡ true → form_asked traffic task.unique ≡ Some (form_of task.what)

-- The taken asks that the broker has without a reply are the daemon's asks in hand and its unposted replies, as one bag
-- of uniques. The broker has each ask in hand with its answer's form, and would take each unposted reply.
pub record IsAwaited (traffic : TrafficState) (server : ServerState) : Type 0 where
  pub uniques : (measure : ℕ → ℕ) → sum_by (of_taken measure) traffic.taken
      ≡ sum_by (of_ask measure) server.hand + sum_by (of_reply measure) server.unposted
  pub forms : AllByRecursion (IsWaitedFor traffic) server.hand
  pub replies : AllByRecursion (λ (reply : Reply). is_asked traffic reply ≡ true) server.unposted

-- ---- both

-- each daemon that serves has the seat, and the broker waits for exactly what the daemon of the seat has to answer
pub record IsAttended (state : State) : Type 0 where
  pub daemons : (daemon : DaemonId) (was : DaemonState) → daemon_of state daemon ≡ Some was →
      ServesSeated state daemon was
  pub asked : (seat : Seat) (server : ServerState) → IsSeated state seat server →
      IsAwaited state.broker.traffic server
