-- What holds of the definitions alone, for callers that work requests outside of an event.
use Rattle.std.specs.Prelude.{◌≡◌, ℕ, ◌≤◌, ◌≢◌, List, [], ◌∷◌, ◌++◌, map, Option, Some, None}
use Rattle.std.specs.List.{flat_map}
use Rattle.eden_base.specs.First.{first_where}
use Rattle.manifest.specs.Tree.{IsTree}
use Rattle.fuse_wire.specs.Request.{items_of}
use Rattle.fuse_wire.specs.declared.request.Ask.{Ask}
use Rattle.fuse_wire.specs.declared.request.Request.TheVariants.{Forget}
use Rattle.fuse_wire.specs.declared.item.Item.{Item}
use Rattle.fuse_wire.specs.declared.reply.Answer.{Answer}
use Rattle.fuse_wire.specs.declared.reply.Reply.{Reply}
use Rattle.broker_core.specs.declared.seat.Seat.{Seat}
use Rattle.journal.specs.declared.journal.Record.{Record}
use Rattle.fuse_ops.specs.Served.{ServedState, Replay}
use Rattle.daemon.specs.Daemon.{DaemonState, with_server}
use Rattle.daemon.specs.Server.{ServerState, at_position, without_position, handed, reply_to, with_worked}
use Rattle.world.specs.State.{State, with_daemon}
use Rattle.world.specs.World.{World, Move, work, work_item, is_asked, is_item, owed, MayMove, IsRun, after, after_all}
use Rattle.world.specs.Handing.{HasTheSeat}
use Rattle.world.specs.Agreement.{Knows, Matches}

-- ---- on what is under way

-- A served state knows what the world has: the tree, how often each number is owed, and what each number names.
pub record ServesWorld (world : World) (served : ServedState) : Type 0 where
  pub is_tree : IsTree world.tree
  pub of_manifest : world.tree.manifest ≡ world.manifest
  pub knows : Knows world.tree world.names (owed world) served

-- A legal answer to an ask that is under way is one that the world may give. The served state after the answer knows
-- the world after it.
abbrev pub AnswerIsMove : Type 0
AnswerIsMove =
    (world : World) (served later : ServedState) (ask : Ask) (answer : Answer) → ServesWorld world served →
    first_where (is_asked ask.unique) world.asks ≡ Some ask → Replay served ask.what (Some answer) later →
    MayMove world (work ask.unique answer) × ServesWorld (after world (work ask.unique answer)) later

-- An item under way that is not of the root and takes something back may be applied. The served state after the item
-- knows the world after it.
abbrev pub ItemIsMove : Type 0
ItemIsMove =
    (world : World) (served later : ServedState) (item : Item) → ServesWorld world served →
    first_where (is_item item) world.items ≡ Some item → item.node.0 ≢ 1 → 1 ≤ item.k →
    Replay served (Forget item) None later →
    MayMove world (work_item item) × ServesWorld (after world (work_item item)) later

-- ---- on a member of the holder's hand

-- the moves of a step that works a request: an ask is answered, or each item of a forget is applied by itself
abbrev pub moves_worked : Ask → Option Answer → List Move
moves_worked task (Some answer) = work task.unique answer ∷ []
moves_worked task None = map work_item (items_of task.what)

-- the state in which the seat's daemon serves this
abbrev pub serves_on : State → Seat → DaemonState → ServerState → State
serves_on state seat was server = with_daemon state seat.daemon (with_server was server)

-- A legal step of the seat's daemon on the member at a position of its hand is a run of moves, whoever makes the step.
-- The state with that member worked matches the world after the moves.
abbrev pub MemberIsMove : Type 0
MemberIsMove =
    (world : World) (state : State) (seat : Seat) (was : DaemonState) (server : ServerState) (position : ℕ) (task : Ask)
    (answer : Option Answer) (later : ServedState) → Matches world state → HasTheSeat state seat was server →
    at_position server.hand position ≡ Some task → Replay server.served task.what answer later →
    IsRun world (moves_worked task answer)
    × Matches (after_all world (moves_worked task answer))
    (serves_on state seat was (with_worked server position task answer later))

-- ---- over a round's journal

-- `left` is the hand without these members, which are removed one after another, each at any position at which it
-- stands
abbrev pub Leaves : List Ask → List Ask → List Ask → Type 0
Leaves hand [] left = left ≡ hand
Leaves hand (task ∷ tasks) left =
    (position : ℕ) × (at_position hand position ≡ Some task) × Leaves (without_position hand position) tasks left

-- each ask was applied by its record, in order, and these legal steps lead from the one served state to the other
abbrev pub IsJournalOf : ServedState → List Ask → List Record → ServedState → Type 0
IsJournalOf opening [] [] last = last ≡ opening
IsJournalOf opening (ask ∷ asks) (applied ∷ records) last =
    (applied.request ≡ ask.what) × (next : ServedState) × Replay opening applied.request applied.answer next
    × IsJournalOf next asks records last
IsJournalOf opening asks records last = ⊥

-- the moves of a journal that applied these asks
abbrev pub moves_recorded : List Ask → List Record → List Move
moves_recorded (ask ∷ asks) (applied ∷ records) = moves_worked ask applied.answer ++ moves_recorded asks records
moves_recorded asks records = []

-- the replies of a journal that applied these asks
abbrev pub replies_recorded : List Ask → List Record → List Reply
replies_recorded (ask ∷ asks) (applied ∷ records) = reply_to ask applied.answer ++ replies_recorded asks records
replies_recorded asks records = []

-- A journal of legal steps on members of the hand of the seat's daemon is a run of moves; each item of a forget is a
-- member. The state after the journal matches the world after the moves. In that state the daemon serves what the
-- journal leads to, has in hand what is left, and has the journal's replies to post.
abbrev pub JournalIsRun : Type 0
JournalIsRun =
    (world : World) (state : State) (seat : Seat) (was : DaemonState) (server : ServerState) (asks : List Ask)
    (records : List Record) (last : ServedState) (left : List Ask) → Matches world state →
    HasTheSeat state seat was server → IsJournalOf server.served asks records last →
    Leaves server.hand (flat_map handed asks) left →
    IsRun world (moves_recorded asks records)
    × Matches (after_all world (moves_recorded asks records)) (serves_on state seat was (record server {
      served = last;
      hand = left;
      unposted = server.unposted ++ replies_recorded asks records;
    }))
