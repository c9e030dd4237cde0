-- One event is made, or is refused for the first cause that holds. A `do` is the list of its events, until one is
-- refused. Last comes a list of events.
use Rattle.std.specs.Prelude.{◌≡◌, ◌≢◌, ℕ, ◌+◌, ◌⊎◌, Bool, true, false, List, [], ◌∷◌, ◌++◌, length, Option, Some, None, Ok, Err, if◌then◌else◌}
use Rattle.std.specs.Option.{option_map_or}
use Rattle.eden_base.specs.declared.claim.ClaimFault.{ClaimFault}
use Rattle.eden_base.specs.declared.number.DaemonId.{DaemonId}
use Rattle.broker_core.specs.Broker.{mounted, issued, unique_of, taken, posted, delivered, claim_fault, claimed, without_daemon}
use Rattle.broker_core.specs.Traffic.{front, next_taken}
use Rattle.broker_core.specs.declared.seat.Seat.{Seat}
use Rattle.fuse_wire.specs.Request.{is_ask}
use Rattle.fuse_wire.specs.declared.request.Ask.{Ask}
use Rattle.fuse_wire.specs.declared.request.Request.{Request}
use Rattle.fuse_wire.specs.declared.reply.Answer.{Answer}
use Rattle.fuse_wire.specs.declared.reply.Reply.{Reply}
use Rattle.fuse_ops.specs.Served.{ServedState, Replay}
use Rattle.daemon.specs.Refusals.{is_made}
use Rattle.daemon.specs.Server.{ServerState, new_server, at_position, told_taken, with_taken, told_worked, with_worked, with_posted}
use Rattle.takeover_core.specs.Phases.{claim_wanted}
use Rattle.takeover_core.specs.declared.message.Message.{Message}
use Rattle.takeover_core.specs.declared.message.Message.TheVariants.{Offer}
use Rattle.daemon.specs.Daemon.{DaemonState, new_daemon, with_server}
use Rattle.daemon.specs.Serving.{FailsSo}
use Rattle.world.specs.State.{State, daemon_of, with_daemon, fault}
use Rattle.daemon.specs.Saying.{what_is_said}
use Rattle.daemon.specs.Talking.{HearsSo, IsReady, GivesUpSo, MountsSo, EndsSo, ClaimsSo, after_claim}
use Rattle.daemon.specs.declared.turn.Reaction.{Reaction}
use Rattle.daemon.specs.declared.turn.Reaction.TheVariants.{Ignores, Accepts, Says}
use Rattle.world.specs.declared.event.Event.{Event}
use Rattle.world.specs.declared.event.Event.TheVariants.{Start, Mount, Issue, Take, Work, Post, Deliver, Hear, Drained, GiveUp, Claim, Crash, Do, Show}
use Rattle.daemon.specs.declared.happened.Happened.{Happened}
use Rattle.daemon.specs.declared.happened.Happened.TheVariants as happened
use Rattle.daemon.specs.declared.happened.Refusal.{Refusal}
use Rattle.daemon.specs.declared.happened.Refusal.TheVariants.{NoMemory}

-- ---- one event that is no `do`

-- the daemon after its claim from the generation that it wanted was refused
abbrev pub unclaimed : State → DaemonState → Option ℕ → DaemonState
unclaimed old was None = was
unclaimed old was (Some generation) =
    option_map_or (λ (fault : ClaimFault). after_claim was (Err fault)) (claim_fault old.broker generation) was

-- The state after a refusal: it is unchanged, except that a daemon whose claim can never succeed is gone.
abbrev pub after_refusal : State → Event → State
after_refusal old (Claim daemon) =
    option_map_or (λ (was : DaemonState). with_daemon old daemon (unclaimed old was (claim_wanted was.node.phase)))
    (daemon_of old daemon) old
after_refusal old event = old

-- the event is refused for this cause
abbrev pub Refuses : State → Event → Refusal → Happened → State → Type 0
Refuses old event refusal told new = (told ≡ happened.Refused refusal) × (new ≡ after_refusal old event)

-- memory is refused, and nothing changes
abbrev pub Lacks : State → Happened → State → Type 0
Lacks old told new = (told ≡ happened.Refused NoMemory) × (new ≡ old)

-- a new daemon with these versions starts, as the last in the list of daemons, and says its offer
abbrev pub Starts : State → List ℕ → Happened → State → Type 0
Starts old versions told new =
    (told ≡ happened.Started (record { 0 = length old.daemons + 1 }))
    × (new ≡ record old {
      daemons = old.daemons ++ new_daemon versions ∷ [];
      messages = old.messages ++ Offer versions ∷ [];
    })

-- a daemon takes the seat, and serves the manifest's tree from then on
pub record Mounts (old : State) (daemon : DaemonId) (told : Happened) (new : State) : Type 0 where
  pub was : DaemonState
  pub later : DaemonState
  pub there : daemon_of old daemon ≡ Some was
  pub does : MountsSo (old.broker.last + 1) (new_server old.manifest old.limit (old.broker.last + 1)) was later
  pub tells : told ≡ happened.Mounted (old.broker.last + 1)
  pub makes : new ≡ with_daemon (record old { broker = mounted old.broker daemon }) daemon later

-- the kernel issues an ask or a forget
abbrev pub Issues : State → Request → Happened → State → Type 0
Issues old request told new =
    (told ≡ happened.Asked (unique_of old.broker request)) × (new ≡ record old { broker = issued old.broker request })

-- a daemon takes what waits first at the broker: this joins the end of the daemon's hand
pub record Takes (old : State) (daemon : DaemonId) (told : Happened) (new : State) : Type 0 where
  pub was : DaemonState
  pub server : ServerState
  pub ask : Ask
  pub there : daemon_of old daemon ≡ Some was
  pub serves : was.server ≡ Some server
  pub first : next_taken old.broker.traffic ≡ Some ask
  pub tells : told ≡ told_taken ask
  pub makes : new ≡ with_daemon (record old { broker = taken old.broker }) daemon
      (with_server was (with_taken server ask))

-- A daemon answers the ask, or applies the item, at a position of its hand. The answer is EIO exactly if the event lets
-- the backing fail and the request asks the backing.
pub record Works (old : State) (daemon : DaemonId) (position : ℕ) (fails : Bool) (told : Happened)
    (new : State) : Type 0 where
  pub was : DaemonState
  pub server : ServerState
  pub task : Ask
  pub later : ServedState
  pub answer : Option Answer
  pub there : daemon_of old daemon ≡ Some was
  pub serves : was.server ≡ Some server
  pub at : at_position server.hand position ≡ Some task
  pub replay : Replay server.served task.what answer later
  pub fails_so : FailsSo fails server.served task.what answer
  pub tells : told ≡ told_worked server.served task answer
  pub makes : new ≡ with_daemon old daemon (with_server was (with_worked server position task answer later))

-- a daemon posts the reply at a position of its unposted replies: the reply waits for the kernel
pub record Posts (old : State) (daemon : DaemonId) (position : ℕ) (told : Happened) (new : State) : Type 0 where
  pub was : DaemonState
  pub server : ServerState
  pub reply : Reply
  pub there : daemon_of old daemon ≡ Some was
  pub serves : was.server ≡ Some server
  pub at : at_position server.unposted position ≡ Some reply
  pub tells : told ≡ happened.Posted reply.unique
  pub makes : new ≡ with_daemon (record old { broker = posted old.broker reply }) daemon
      (with_server was (with_posted server position))

-- the first posted reply reaches the kernel
pub record Delivers (old : State) (told : Happened) (new : State) : Type 0 where
  pub reply : Reply
  pub first : front old.broker.traffic.posted ≡ Some reply
  pub tells : told ≡ happened.Answered reply
  pub makes : new ≡ record old { broker = delivered old.broker }

-- what is told of a reaction: of messages that are said, the position of the first
abbrev pub told_reaction : ℕ → Reaction → Happened
told_reaction count Ignores = happened.Ignored
told_reaction count Accepts = happened.Heard
told_reaction count (Says said others) = happened.Said (count + 1)

-- a daemon changes as `turns` says, and what it says joins the messages
pub record Reacts (old : State) (daemon : DaemonId) (turns : DaemonState → Reaction → DaemonState → Type 0)
    (told : Happened) (new : State) : Type 0 where
  pub was : DaemonState
  pub reaction : Reaction
  pub later : DaemonState
  pub there : daemon_of old daemon ≡ Some was
  pub does : turns was reaction later
  pub tells : told ≡ told_reaction (length old.messages) reaction
  pub makes : new ≡ with_daemon (record old { messages = old.messages ++ what_is_said reaction }) daemon later

-- a daemon hears the message at a position
pub record Hears (old : State) (daemon : DaemonId) (position : ℕ) (told : Happened) (new : State) : Type 0 where
  pub said : Message
  pub at : at_position old.messages position ≡ Some said
  pub reacts : Reacts old daemon (λ was. HearsSo old.manifest old.limit was said) told new

-- a daemon claims the seat: it has the seat from then on, one generation later
pub record Claims (old : State) (daemon : DaemonId) (told : Happened) (new : State) : Type 0 where
  pub was : DaemonState
  pub generation : ℕ
  pub later : DaemonState
  pub there : daemon_of old daemon ≡ Some was
  pub wants : claim_wanted was.node.phase ≡ Some generation
  pub does : ClaimsSo (Ok (generation + 1)) was later
  pub tells : told ≡ happened.Claimed (generation + 1)
  pub makes : new ≡ with_daemon (record old { broker = claimed old.broker daemon generation }) daemon later

-- a daemon ends and loses all that it had, and the mount ends if the daemon had the seat
pub record Crashes (old : State) (daemon : DaemonId) (told : Happened) (new : State) : Type 0 where
  pub was : DaemonState
  pub later : DaemonState
  pub there : daemon_of old daemon ≡ Some was
  pub does : EndsSo was later
  pub tells : told ≡ happened.Crashed
  pub makes : new ≡ with_daemon (record old { broker = without_daemon old.broker daemon }) daemon later

-- the event is made, as an event of its kind
abbrev pub Makes : State → Event → Happened → State → Type 0
Makes old (Start versions) told new = Starts old versions told new
Makes old (Mount daemon) told new = Mounts old daemon told new
Makes old (Issue request) told new = Issues old request told new
Makes old (Take daemon) told new = Takes old daemon told new
Makes old (Work daemon position fails) told new = Works old daemon position fails told new
Makes old (Post daemon position) told new = Posts old daemon position told new
Makes old Deliver told new = Delivers old told new
Makes old (Hear daemon position) told new = Hears old daemon position told new
Makes old (Drained daemon) told new = Reacts old daemon IsReady told new
Makes old (GiveUp daemon) told new = Reacts old daemon GivesUpSo told new
Makes old (Claim daemon) told new = Claims old daemon told new
Makes old (Crash daemon) told new = Crashes old daemon told new
Makes old event told new = ⊥

-- an event may be refused memory: every event may, but a work, a post, a claim and a crash
abbrev pub TakesMemory : Event → Type 0
TakesMemory (Work daemon position fails) = ⊥
TakesMemory (Claim daemon) = ⊥
TakesMemory (Post daemon position) = ⊥
TakesMemory (Crash daemon) = ⊥
TakesMemory event = Unit {0}

-- an event is refused for the first cause against it, if there is one; else it is made, or is refused memory
abbrev pub OnceBy : State → Event → Option Refusal → Happened → State → Type 0
OnceBy old event (Some refusal) told new = Refuses old event refusal told new
OnceBy old event None told new = Makes old event told new ⊎ (TakesMemory event × Lacks old told new)

-- one event that is no `do` and no look is made or refused, and this is told of it
abbrev pub Once : State → Event → Happened → State → Type 0
Once old event told new = OnceBy old event (fault old event) told new

-- ---- every event

-- the first of two conditions holds if an event was made, the second if it was refused
abbrev pub IfMade : Bool → Type 0 → Type 0 → Type 0
IfMade true goes_on ends = goes_on
IfMade false goes_on ends = ends

-- events happen one after another, until one is refused
abbrev pub Carries : State → List Event → List Happened → State → Type 0
Carries old [] outcome new = (outcome ≡ []) × (new ≡ old)
Carries old (event ∷ events) [] new = ⊥
Carries old (event ∷ events) (told ∷ rest) new =
    (between : State) × Once old event told between
    × IfMade (is_made told) (Carries between events rest new) ((rest ≡ []) × (new ≡ between))

-- The events of a `do`. The request is issued. The daemon of the seat takes what waits first, and works the first of
-- its hand. For an ask the daemon also posts its first reply, and the first posted reply is delivered.
abbrev pub events_of_do : Option Seat → Request → List Event
events_of_do None request = Issue request ∷ []
events_of_do (Some seat) request =
    Issue request ∷ Take seat.daemon ∷ Work seat.daemon 1 false
    ∷ (if is_ask request then Post seat.daemon 1 ∷ Deliver ∷ [] else [])

-- the events of which an event consists, none of them a `do`; a look consists of none
abbrev pub parts_of : Option Seat → Event → List Event
parts_of seat (Do request) = events_of_do seat request
parts_of seat Show = []
parts_of seat event = event ∷ []

-- The take of a `do`, which happens second, is not refused as out of memory. Its memory was reserved before the
-- issue, and where that memory was refused the issue is refused.
abbrev pub HasRoom : List Happened → Type 0
HasRoom (asked ∷ taken ∷ later) = taken ≢ happened.Refused NoMemory
HasRoom outcome = Unit {0}

-- One event happens, with its outcome. So only two events of a `do` may be refused as out of memory: the issue, in
-- which case nothing changes and nothing else happens, and the delivery.
abbrev pub Step : State → Event → List Happened → State → Type 0
Step old event outcome new = Carries old (parts_of old.broker.seat event) outcome new × HasRoom outcome

-- events happen one after another, each with its outcome
abbrev pub Steps : State → List Event → List (List Happened) → State → Type 0
Steps old [] [] new = new ≡ old
Steps old (event ∷ events) (outcome ∷ outcomes) new =
    (between : State) × Step old event outcome between × Steps between events outcomes new
Steps old [] (outcome ∷ outcomes) new = ⊥
Steps old (event ∷ events) [] new = ⊥
