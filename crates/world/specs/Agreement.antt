-- Which moves an event makes in the world, what a served state knows of a world, and when a state matches a world.
use Rattle.std.specs.Prelude.{◌≡◌, ◌≢◌, ℕ, ◌+◌, ◌-◌, ◌<◌, ◌≤◌, ◌↔◌, Bool, true, false, ◌&&◌, ◌||◌, ◌==◌, List, [], ◌∷◌, ◌++◌, sum_by, count_by, Contains, Option, Some, None, IsSome, if◌then◌else◌}
use Rattle.std.specs.Option.{option_map_or}
use Rattle.std.specs.List.{AllByRecursion, list_any}
use Rattle.eden_base.specs.declared.number.DaemonId.{DaemonId}
use Rattle.eden_base.specs.declared.number.FileId.{FileId}
use Rattle.manifest.specs.Manifest.{Manifest}
use Rattle.manifest.specs.Tree.{Tree, IsTree, tree_of}
use Rattle.fuse_wire.specs.Request.{is_ask, item_of, items_of}
use Rattle.fuse_wire.specs.declared.request.Ask.{Ask}
use Rattle.fuse_wire.specs.declared.item.Item.{Item}
use Rattle.broker_core.specs.Broker.{BrokerState}
use Rattle.broker_core.specs.Held.{held_count}
use Rattle.broker_core.specs.Traffic.{TrafficState, no_traffic}
use Rattle.broker_core.specs.declared.seat.Seat.{Seat}
use Rattle.entry_table.specs.Entries.{IsFileOf, count_of}
use Rattle.fuse_ops.specs.Served.{ServedState}
use Rattle.fuse_ops.specs.Soundness.{IsSound}
use Rattle.inode_map.specs.declared.inode_map.Forgot.TheVariants.{Bad, Root}
use Rattle.map_codec.specs.Handover.{IsHandedOver}
use Rattle.takeover_core.specs.Phases.{claim_wanted}
use Rattle.takeover_core.specs.declared.message.Message.{Message}
use Rattle.takeover_core.specs.declared.message.Message.TheVariants.{Data, Part}
use Rattle.world.specs.Handing.{IsHanding, data_of, reads_at}
use Rattle.world.specs.Attending.{MayBeTold, IsAttended}
use Rattle.daemon.specs.Daemon.{DaemonState}
use Rattle.daemon.specs.Server.{ServerState, IsIdle, at_position, is_single}
use Rattle.daemon.specs.Talking.{IsSent}
use Rattle.world.specs.State.{State, IsSeated, daemon_of, server_of, is_data_of, handed_of}
use Rattle.world.specs.Step.{Steps, parts_of}
use Rattle.world.specs.World.{World, Move, issue, issue_item, work, work_item, accept, deliver, mount, claim, end as mount_end, first_world, file_named, times, owed, is_asked, is_replied, IsRun, after_all}
use Rattle.world.specs.declared.event.Event.{Event}
use Rattle.world.specs.declared.event.Event.TheVariants.{Mount, Issue, Work, Post, Deliver, Claim, Crash}
use Rattle.daemon.specs.declared.happened.Happened.{Happened}
use Rattle.daemon.specs.declared.happened.Happened.TheVariants as happened

-- ---- moves of events

-- whether the daemon has the seat
abbrev pub holds : Option Seat → DaemonId → Bool
holds seat daemon = option_map_or (λ (seat : Seat). seat.daemon.0 == daemon.0) seat false

-- The moves that an event made, by the seat before the event and by what is told of the event. A claim is from the
-- generation before the told one. A take only hands on what is under way, and makes no move. Nor does a message, the
-- end of a daemon without the seat, or a refused event.
abbrev pub move_of : Option Seat → Event → Happened → List Move
move_of seat (Mount daemon) (happened.Mounted generation) = mount daemon ∷ []
move_of seat (Issue request) (happened.Asked (Some unique)) = issue (record { unique = unique; what = request }) ∷ []
move_of seat (Issue request) (happened.Asked None) =
    option_map_or (λ (item : Item). issue_item item ∷ []) (item_of request) []
move_of seat (Work daemon position fails) (happened.Made reply) = work reply.unique reply.answer ∷ []
move_of seat (Work daemon position fails) (happened.Forgot item forgot) = work_item item ∷ []
move_of seat (Post daemon position) (happened.Posted unique) = accept unique daemon ∷ []
move_of seat Deliver (happened.Answered reply) = deliver reply.unique ∷ []
move_of seat (Claim daemon) (happened.Claimed next) = claim (next - 1) daemon ∷ []
move_of seat (Crash daemon) happened.Crashed = if holds seat daemon then mount_end ∷ [] else []
move_of seat event told = []

-- the moves of a list of events without a `do`, by what is told of each event
abbrev pub moves_in_turn : World → List Event → List Happened → List Move
moves_in_turn world (event ∷ events) (told ∷ rest) =
    move_of world.seat event told ++ moves_in_turn (after_all world (move_of world.seat event told)) events rest
moves_in_turn world events outcome = []

-- the moves of an event; the moves of a `do` are those of the events that it made
abbrev pub moves_of : World → Event → List Happened → List Move
moves_of world event outcome = moves_in_turn world (parts_of world.seat event) outcome

-- the moves of a list of events, by the outcome of each event
abbrev pub all_moves : World → List Event → List (List Happened) → List Move
all_moves world (event ∷ events) (outcome ∷ outcomes) =
    moves_of world event outcome ++ all_moves (after_all world (moves_of world event outcome)) events outcomes
all_moves world events outcomes = []

-- the world after the moves of a list of events that begins before anything happened
abbrev pub world_after : Manifest → List Event → List (List Happened) → World
world_after manifest events outcomes =
    after_all (first_world manifest) (all_moves (first_world manifest) events outcomes)

-- ---- what is under way

-- two lists are the same bag: every measure of their members has the same sum over both
abbrev pub IsSameBag : {X : Type 0} → List X → List X → Type 0
IsSameBag {X} xs ys = (measure : X → ℕ) → sum_by measure xs ≡ sum_by measure ys

-- the asks in a hand
abbrev pub asks_in : List Ask → List Ask
asks_in [] = []
asks_in (task ∷ hand) = if is_ask task.what then task ∷ asks_in hand else asks_in hand

-- the items in a hand
abbrev pub items_in : List Ask → List Item
items_in [] = []
items_in (task ∷ hand) = items_of task.what ++ items_in hand

-- The world's asks and items are those in the hand of the seat's daemon and those that wait at the broker. In the hand
-- each item stands by itself. The world's replies are those that the daemon did not post and those that wait at the
-- broker.
pub record IsUnderWay (world : World) (traffic : TrafficState) (server : ServerState) : Type 0 where
  pub singles : AllByRecursion (λ (task : Ask). is_single task ≡ true) server.hand
  pub asks : world.asks ≡ asks_in server.hand ++ traffic.untaken
  pub items : IsSameBag world.items (items_in server.hand ++ traffic.items)
  pub replies : IsSameBag world.replies (server.unposted ++ traffic.posted)

-- nothing is under way
pub record IsQuiet (world : World) : Type 0 where
  pub asks : world.asks ≡ []
  pub items : world.items ≡ []
  pub replies : world.replies ≡ []

-- if nobody has the seat, nothing is under way
abbrev pub QuietWithoutSeat : World → BrokerState → Type 0
QuietWithoutSeat world broker = broker.seat ≡ None → IsQuiet world × (broker.traffic ≡ no_traffic)

-- the daemon has the seat
abbrev pub IsHolder : State → DaemonId → Type 0
IsHolder state daemon = (seat : Seat) × (state.broker.seat ≡ Some seat) × (seat.daemon ≡ daemon)

-- a daemon without the seat has an empty hand, and every reply posted
abbrev pub OthersAreIdle : State → Type 0
OthersAreIdle state = (daemon : DaemonId) (server : ServerState) → server_of state daemon ≡ Some server →
    (IsHolder state daemon → ⊥) → IsIdle server

-- ---- the promises

-- A served state knows a mount in which each number is owed so much. Its tree is the mount's, each count is what is
-- owed, each number names the file that it was first given out for, and the state is sound.
pub record Knows (tree : Tree) (names : List (ℕ × FileId)) (owes : ℕ → ℕ) (served : ServedState) : Type 0 where
  pub tree_is : served.tree ≡ tree
  pub counts : (n : ℕ) → n ≢ 1 → count_of served.map.entries n ≡ owes n
  pub files : (n : ℕ) (file : FileId) → IsFileOf served.tree served.map.entries n file → file_named names n ≡ Some file
  pub sound : IsSound served
  -- the numbers that name something are those from 1 to the next number less 1
  pub numbers : (n : ℕ) → IsSome (file_named names n) ↔ ((1 ≤ n) × (n < served.map.next))

-- if a daemon has the seat, it serves a state that knows the world, and the world has under way what the daemon has
abbrev pub HolderKnows : World → State → Type 0
HolderKnows world state = (seat : Seat) → state.broker.seat ≡ Some seat →
    (server : ServerState) × IsSeated state seat server × Knows world.tree world.names (owed world) server.served
    × IsUnderWay world state.broker.traffic server

-- the broker has the world's seat, last generation and held numbers, and each used unique is below the broker's next
pub record Books (world : World) (broker : BrokerState) : Type 0 where
  pub seat : world.seat ≡ broker.seat
  pub last : world.last ≡ broker.last
  pub held : (n : ℕ) → times n world.held ≡ held_count broker.held n
  pub uniques : (unique : ℕ) → Contains world.uniques unique → unique < broker.next_unique

-- A state agrees with a world: the broker's books, what is under way, and the tree of the seat's daemon are the
-- world's. The other daemons have nothing in hand or unposted.
pub record Agrees (world : World) (state : State) : Type 0 where
  pub manifest : world.manifest ≡ state.manifest
  pub books : Books world state.broker
  pub quiet : QuietWithoutSeat world state.broker
  pub holder_serves : (seat : Seat) → state.broker.seat ≡ Some seat →
      (server : ServerState) × IsSeated state seat server
  pub under_way : (seat : Seat) (server : ServerState) → IsSeated state seat server →
      IsUnderWay world state.broker.traffic server
  pub others_idle : OthersAreIdle state
  pub tree : (seat : Seat) (server : ServerState) → IsSeated state seat server → server.served.tree ≡ world.tree

-- the seated daemon counts each number but the root as often as the number is owed
abbrev pub CountsAreOwed : World → State → Type 0
CountsAreOwed world state =
    (seat : Seat) (server : ServerState) → IsSeated state seat server → (n : ℕ) → n ≢ 1 →
    count_of server.served.map.entries n ≡ owed world n

-- each number of a daemon names the file that it was first given out for
pub record NamesAreFirst (world : World) (served : ServedState) : Type 0 where
  pub files : (n : ℕ) (file : FileId) → IsFileOf served.tree served.map.entries n file →
      file_named world.names n ≡ Some file
  pub sound : IsSound served
  pub numbers : (n : ℕ) → IsSome (file_named world.names n) ↔ ((1 ≤ n) × (n < served.map.next))

-- each number of the seated daemon names the file that it was first given out for
abbrev pub NumbersNameTheirFirstFile : World → State → Type 0
NumbersNameTheirFirstFile world state =
    (seat : Seat) (server : ServerState) → IsSeated state seat server → NamesAreFirst world server.served

-- a served state knows the world: its tree, what each number names, and how often each number is owed
abbrev pub KnowsWorld : World → ServedState → Type 0
KnowsWorld world served = Knows world.tree world.names (owed world) served

-- Data of the seat's generation is in one message, or in the numbered parts of one session, as its version goes. This data is the image of a
-- state that knows the world as it is at the end, though the kernel issued and received since. A daemon that reads
-- parts of that generation has read a beginning of the image.
pub record IsHandedNow (world : World) (state : State) (seat : Seat) : Type 0 where
  pub session : ℕ
  pub version : ℕ
  pub text : List ℕ
  pub served : ServedState
  pub said : IsSent version session seat.generation text (data_of seat.generation state.messages)
  pub handed : IsHandedOver served seat.generation version text
  pub knows : KnowsWorld world served
  pub read : (daemon : DaemonId) (was : DaemonState) → daemon_of state daemon ≡ Some was →
      reads_at was.node.phase ≡ Some seat.generation →
      (read rest : List ℕ) × (was.reading ≡ Some read) × (text ≡ read ++ rest)

-- whether a message begins the data of this generation: it has all of the data, or the first part
abbrev pub begins_data_of : ℕ → Message → Bool
begins_data_of generation (Data session at bytes) = at == generation
begins_data_of generation (Part session at position count bytes) = at == generation && position == 1
begins_data_of generation other = false

-- Data of the seat's generation is handed over once at most, and begins at the position that is told of it. This data
-- knows the world, and so does what each daemon serves that may claim the seat. No data is of a generation to come. A
-- daemon reads parts of the seat's generation only if its data was said.
pub record DataIsCurrent (world : World) (state : State) : Type 0 where
  pub past : (position generation : ℕ) (message : Message) → at_position state.messages position ≡ Some message →
      is_data_of generation message ≡ true → generation ≤ state.broker.last
  pub alone : (seat : Seat) → state.broker.seat ≡ Some seat →
      count_by (begins_data_of seat.generation) state.messages ≤ 1
  pub handed : (seat : Seat) (position : ℕ) → state.broker.seat ≡ Some seat → handed_of state ≡ Some position →
      IsHandedNow world state seat
  pub reads : (seat : Seat) (daemon : DaemonId) (was : DaemonState) → state.broker.seat ≡ Some seat →
      daemon_of state daemon ≡ Some was → reads_at was.node.phase ≡ Some seat.generation → IsSome (handed_of state)
  pub held : (seat : Seat) (daemon : DaemonId) (was : DaemonState) → state.broker.seat ≡ Some seat →
      daemon_of state daemon ≡ Some was → claim_wanted was.node.phase ≡ Some seat.generation →
      (server : ServerState) × (was.server ≡ Some server) × KnowsWorld world server.served

-- all replies that were accepted at one generation came from one daemon
abbrev pub OneDaemonForEachGeneration : World → Type 0
OneDaemonForEachGeneration world =
    (one other : Seat) → Contains world.answered one → Contains world.answered other →
    one.generation ≡ other.generation → one ≡ other

-- what happened is no bad forget, and no forget of the root
abbrev pub IsGoodForget : Happened → Type 0
IsGoodForget (happened.Forgot item Bad) = ⊥
IsGoodForget (happened.Forgot item Root) = ⊥
IsGoodForget other = Unit {0}

-- whether a reply was posted
abbrev pub is_posted : Happened → Bool
is_posted (happened.Posted unique) = true
is_posted told = false

-- the seat from which an event posted a reply, if it posted one
abbrev pub posted_from : State → List Happened → Option Seat
posted_from old outcome = if list_any is_posted outcome then old.broker.seat else None

-- for each event, the seat from which it posted a reply, if it posted one; the steps have the states between the events
abbrev pub posters : (old : State) (events : List Event) (outcomes : List (List Happened)) (end : State) →
    Steps old events outcomes end → List (Option Seat)
posters old (event ∷ events) (outcome ∷ outcomes) end steps =
    posted_from old outcome ∷ posters steps.0 events outcomes end steps.2
posters old [] outcomes end steps = []
posters old (event ∷ events) [] end steps = []

-- the world saw the seat's daemon answer at the seat's generation, if there is a seat
abbrev pub IsAnswered : World → Option Seat → Type 0
IsAnswered world (Some seat) = Contains world.answered seat
IsAnswered world None = Unit {0}

-- the world saw each posted reply posted, by the same daemon at the same generation
abbrev pub RepliesAreAnswered : World → State → List Event → List (List Happened) → State → Type 0
RepliesAreAnswered world start events outcomes end =
    (steps : Steps start events outcomes end) →
    AllByRecursion (IsAnswered world) (posters start events outcomes end steps)

-- ---- what keeps them true

-- each generation at which a daemon answered is the last one or before it; at the seat's generation only the seat's
-- daemon answered
pub record AnsweredBefore (world : World) : Type 0 where
  pub one_daemon : OneDaemonForEachGeneration world
  pub at_most : (seat : Seat) → Contains world.answered seat → seat.generation ≤ world.last
  pub holder : (seat other : Seat) → world.seat ≡ Some seat → Contains world.answered other →
      other.generation ≡ seat.generation → other ≡ seat

-- the seat is at the last generation, and without a seat the kernel holds nothing
pub record SeatIsLast (world : World) : Type 0 where
  pub is_last : (seat : Seat) → world.seat ≡ Some seat → seat.generation ≡ world.last
  pub empty : world.seat ≡ None → world.held ≡ []

-- whether an item is of the root, or takes nothing back
abbrev pub is_bad : Item → Bool
is_bad item = item.node.0 == 1 || item.k == 0

-- All that waits for an answer is an ask. Each unique is that of at most one ask or reply under way, and a unique that
-- was not given yet is that of none. No item under way is of the root, or takes nothing back.
pub record IsOrderly (world : World) (next_unique : ℕ) : Type 0 where
  pub asked : AllByRecursion (λ (ask : Ask). is_ask ask.what ≡ true) world.asks
  pub once : (unique : ℕ) →
      count_by (is_asked unique) world.asks + count_by (is_replied unique) world.replies ≤ 1
  pub used : (unique : ℕ) → next_unique ≤ unique →
      count_by (is_asked unique) world.asks + count_by (is_replied unique) world.replies ≡ 0
  pub good : count_by is_bad world.items ≡ 0

-- the state follows the world: the broker, what the seat's daemon knows, and what is under way are as the world has
-- them
pub record Follows (world : World) (state : State) : Type 0 where
  pub manifest : world.manifest ≡ state.manifest
  pub is_tree : IsTree (tree_of state.manifest)
  pub tree_is_tree : IsTree world.tree
  pub of_manifest : world.tree.manifest ≡ world.manifest
  pub books : Books world state.broker
  pub seat_is_last : SeatIsLast world
  pub quiet : QuietWithoutSeat world state.broker
  pub orderly : IsOrderly world state.broker.next_unique
  pub answered : AnsweredBefore world
  pub knows : HolderKnows world state
  pub others_idle : OthersAreIdle state

-- The state matches the world. It follows the world, and each daemon that may take the seat over knows what the seat's
-- daemon knows. Each daemon that serves has the seat, and the broker waits for what that daemon has to answer.
pub record Matches (world : World) (state : State) : Type 0 where
  pub follows : Follows world state
  pub handing : IsHanding state
  pub attended : IsAttended state

-- the events' moves are a run from the first world on, and the world after them agrees with the state at the end
pub record IsRunOfMoves (manifest : Manifest) (events : List Event) (outcomes : List (List Happened))
    (end : State) : Type 0 where
  pub run : IsRun (first_world manifest) (all_moves (first_world manifest) events outcomes)
  pub agrees : Agrees (world_after manifest events outcomes) end

-- One event's moves may happen in the world, and the state after the event matches the world after them. No forget was
-- bad, the world saw each posted reply posted, and each refusal is one that may come.
pub record MovesOn (world : World) (old : State) (event : Event) (outcome : List Happened) (new : State) : Type 0 where
  pub run : IsRun world (moves_of world event outcome)
  pub matches : Matches (after_all world (moves_of world event outcome)) new
  pub forgets : AllByRecursion IsGoodForget outcome
  pub answered : IsAnswered (after_all world (moves_of world event outcome)) (posted_from old outcome)
  pub refusals : AllByRecursion (MayBeTold event) outcome
