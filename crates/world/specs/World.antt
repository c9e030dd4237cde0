-- The world as programs on the mount may know it: what each number that was given in this mount names, what the kernel
-- holds, and what is under way. No daemon's state, no phase and no byte is in it. The rules are those of lookup counts
-- in libfuse's `fuse_lowlevel.h`; the seat and its generations are this project's own.
use Rattle.std.specs.Prelude.{◌≡◌, ◌≢◌, ℕ, ◌+◌, ◌-◌, ◌<◌, ◌≤◌, ◌⊎◌, Bool, true, false, ◌&&◌, ◌==◌, List, [], ◌∷◌, ◌++◌, length, sum_by, count_by, Contains, Option, Some, None, IsSome, is_some, Result, if◌then◌else◌}
use Rattle.std.specs.Option.{option_map, option_map_or}
use Rattle.std.specs.List.{AllByRecursion}
use Rattle.eden_base.specs.First.{first_where, without_where}
use Rattle.eden_base.specs.Limits.{greatest_count, end_of_numbers}
use Rattle.eden_base.specs.declared.attr.Kind.TheVariants.{File}
use Rattle.eden_base.specs.declared.errno.Errno.{Errno}
use Rattle.eden_base.specs.declared.errno.Errno.TheVariants.{ESTALE}
use Rattle.eden_base.specs.declared.number.DaemonId.{DaemonId}
use Rattle.eden_base.specs.declared.number.FileId.{FileId}
use Rattle.eden_base.specs.declared.number.Number.{Number}
use Rattle.manifest.specs.Manifest.{Manifest}
use Rattle.manifest.specs.Tree.{Tree, tree_of, kind_of, root}
use Rattle.fuse_wire.specs.Request.{is_ask, nodes}
use Rattle.fuse_wire.specs.Given.{given_out}
use Rattle.fuse_wire.specs.declared.request.Ask.{Ask}
use Rattle.fuse_wire.specs.declared.request.Request.{Request}
use Rattle.fuse_wire.specs.declared.item.Item.{Item}
use Rattle.fuse_wire.specs.declared.reply.Answer.{Answer}
use Rattle.fuse_wire.specs.declared.reply.Answer.TheVariants.{Error}
use Rattle.fuse_wire.specs.declared.reply.Reply.{Reply}
use Rattle.fuse_ops.specs.Answers.{NumberFault, none_left, at_greatest, Numbers, Effect, looks_at, comes_to, Answers, tree_after, file_told}
use Rattle.fuse_ops.specs.Served.{unknown_inode}
use Rattle.broker_core.specs.declared.seat.Seat.{Seat}

-- A world: who serves and at which generation; the last generation; the tree; and the file that each number was given
-- out for. Then come bags: what the kernel holds, the asks and the items that are not worked yet, and the replies that
-- are not delivered yet. Last come who answered at which generation, and the uniques that were used.
pub record World : Type 0 where
  pub manifest : Manifest
  pub seat : Option Seat
  pub last : ℕ
  pub tree : Tree
  pub names : List (ℕ × FileId)
  pub held : List ℕ
  pub asks : List Ask
  pub items : List Item
  pub replies : List Reply
  pub answered : List Seat
  pub uniques : List ℕ

-- the world before anything happened: nobody serves, and the root's number alone names a file
abbrev pub first_world : Manifest → World
first_world manifest = record {
  manifest = manifest;
  seat = None;
  last = 0;
  tree = tree_of manifest;
  names = (1, root) ∷ [];
  held = [];
  asks = [];
  items = [];
  replies = [];
  answered = [];
  uniques = [];
}

-- ---- what is owed

-- the file that a number was first given out for in this mount
abbrev pub file_named : List (ℕ × FileId) → ℕ → Option FileId
file_named names n = option_map (λ (pair : ℕ × FileId). pair.1) (first_where (λ pair. pair.0 == n) names)

-- how often a number is in a bag
abbrev pub times : ℕ → List ℕ → ℕ
times n [] = 0
times n (m ∷ numbers) = (if m == n then 1 else 0) + times n numbers

-- the bag after the number `n` was taken out `k` times
abbrev pub without_times : ℕ → ℕ → List ℕ → List ℕ
without_times k n [] = []
without_times k n (m ∷ numbers) =
    if m == n then (if k == 0 then m ∷ numbers else without_times (k - 1) n numbers)
    else m ∷ without_times k n numbers

-- whether an answer gives this number out
abbrev pub gives : ℕ → Answer → Bool
gives n answer = option_map_or (λ (number : Number). number.0 == n) (given_out answer) false

-- whether a reply gives this number out
abbrev pub carries : ℕ → Reply → Bool
carries n reply = gives n reply.answer

-- how many lookups of this number an item takes back
abbrev pub taken_back : ℕ → Item → ℕ
taken_back n item = if item.node.0 == n then item.k else 0

-- How often a daemon has to count a number: as often as the kernel holds it, once more for each reply under way that
-- gives it out, and as often as the items under way take it back.
abbrev pub owed : World → ℕ → ℕ
owed world n = times n world.held + count_by (carries n) world.replies + sum_by (taken_back n) world.items

-- ---- the table of answers, read over the world

-- a number is live: it is the root, or is owed a count
abbrev pub IsLive : World → ℕ → Type 0
IsLive world n = (n ≡ 1) ⊎ (0 < owed world n)

-- a live number names the file
pub record IsNumberOf (world : World) (file : FileId) (n : ℕ) : Type 0 where
  pub live : IsLive world n
  pub named : file_named world.names n ≡ Some file

-- a number may be given out for a file that has no live number: the number was given out for no other file
pub record IsFree (world : World) (file : FileId) (n : ℕ) : Type 0 where
  pub no_number : (m : ℕ) → IsNumberOf world file m → ⊥
  pub low : 2 ≤ n
  pub high : n < end_of_numbers
  pub named : (file_named world.names n ≡ None) ⊎ (file_named world.names n ≡ Some file)

-- a number is the file's live number, or is free for the file if the file has no live number
abbrev pub MayNumber : World → FileId → ℕ → Type 0
MayNumber world file n = IsNumberOf world file n ⊎ IsFree world file n

-- a live number of the file is owed the greatest count
pub record IsAtGreatest (world : World) (file : FileId) (n : ℕ) : Type 0 where
  pub number : IsNumberOf world file n
  pub greatest : owed world n ≡ greatest_count

-- the file has no live number, and every number names something
pub record HasNoNumber (world : World) (file : FileId) : Type 0 where
  pub no_number : (m : ℕ) → IsNumberOf world file m → ⊥
  pub none_left : (n : ℕ) → 2 ≤ n → n < end_of_numbers → IsSome (file_named world.names n)

-- there is a number for the file, and it may be given out once more
pub record MayBeGiven (world : World) (file : FileId) : Type 0 where
  pub number : ℕ
  pub may : MayNumber world file number
  pub not_greatest : (n : ℕ) → IsAtGreatest world file n → ⊥

-- what stands against giving out a number of the file once more; if nothing does, a number may be given out
abbrev pub IsAgainst : World → FileId → Option NumberFault → Type 0
IsAgainst world file (Some none_left) = HasNoNumber world file
IsAgainst world file (Some at_greatest) = (n : ℕ) × IsAtGreatest world file n
IsAgainst world file None = MayBeGiven world file

-- the file is a regular file of the manifest: a daemon asks its backing for no other files
abbrev pub IsBacked : World → FileId → Type 0
IsBacked world file = (kind_of world.tree file ≡ Some File) × (file.0 < length world.manifest.lines + 2)

-- the inode number by which an entry of a directory tells a file: the file's live number, if it has one
abbrev pub IsInode : World → FileId → ℕ → Type 0
IsInode world file n =
    IsNumberOf world file n ⊎ ((n ≡ unknown_inode) × ((m : ℕ) → IsNumberOf world file m → ⊥))

-- What the world knows of numbers, for the table of answers. Failing backings and lack of memory are no part of the
-- world. So EIO may come for every file that is backed, and ENOMEM for every number that is given out, every name that
-- moves and every directory that is listed, unless an earlier error of the row comes.
abbrev pub numbers_of : World → Numbers
numbers_of world = record {
  IsAgainst = IsAgainst world;
  IsNumber = MayNumber world;
  MayFail = IsBacked world;
  MayWant = λ file. Unit {0};
  IsInode = IsInode world;
}

-- the effect of a request, or its error, if its numbers name the files that they were given out for
abbrev pub effect_in : World → Request → Result Effect Errno
effect_in world request = comes_to world.tree (file_named world.names) request

-- the row of the request looks at a number that is not live
pub record IsStale (world : World) (request : Request) : Type 0 where
  pub node : Number
  pub looked_at : Contains (looks_at request) node
  pub not_live : IsLive world node.0 → ⊥

-- an answer that a request may have: one of the table's, or ESTALE if the request looks at a number that is not live
abbrev pub MayAnswer : World → Request → Answer → Type 0
MayAnswer world request answer =
    ((answer ≡ Error ESTALE) × IsStale world request)
    ⊎ Answers (numbers_of world) request (effect_in world request) answer

-- ---- moves

-- One thing that may happen. An ask and a reply are named by their unique, an item by its number and count.
pub data Move : Type 0 where
  -- the kernel asks
  issue : Ask → Move
  -- the kernel forgets
  issue_item : Item → Move
  -- an ask is answered
  work : ℕ → Answer → Move
  -- an item is applied
  work_item : Item → Move
  -- the broker takes a daemon's reply
  accept : ℕ → DaemonId → Move
  -- a reply reaches the kernel
  deliver : ℕ → Move
  -- a daemon takes the free seat
  mount : DaemonId → Move
  -- a daemon takes the seat over from a generation
  claim : ℕ → DaemonId → Move
  -- the mount is over
  end : Move

-- whether an ask has this unique
abbrev pub is_asked : ℕ → Ask → Bool
is_asked unique ask = ask.unique == unique

-- whether a reply has this unique
abbrev pub is_replied : ℕ → Reply → Bool
is_replied unique reply = reply.unique == unique

-- whether two items have the same number and count
abbrev pub is_item : Item → Item → Bool
is_item item other = other.node.0 == item.node.0 && other.k == item.k

-- a request may name the number: it is the root, or a number that the kernel holds
abbrev pub MayGoTo : World → Number → Type 0
MayGoTo world node = (node.0 ≡ 1) ⊎ (0 < times node.0 world.held)

-- an ask may be issued: a daemon has the seat, the ask's unique was never used, and the kernel holds the ask's numbers
pub record MayIssue (world : World) (ask : Ask) : Type 0 where
  pub seat : IsSome world.seat
  pub is : is_ask ask.what ≡ true
  pub fresh : Contains world.uniques ask.unique → ⊥
  pub held : AllByRecursion (MayGoTo world) (nodes ask.what)

-- an item may be issued: a daemon has the seat, and the item takes back at least one lookup and at most as many as the
-- kernel holds; it is not of the root, which is held always
pub record MayForget (world : World) (item : Item) : Type 0 where
  pub seat : IsSome world.seat
  pub no_root : item.node.0 ≢ 1
  pub some : 1 ≤ item.k
  pub at_most : item.k ≤ times item.node.0 world.held

-- an ask is under way, and may have this answer
abbrev pub MayWork : World → Option Ask → Answer → Type 0
MayWork world (Some ask) answer = MayAnswer world ask.what answer
MayWork world None answer = ⊥

-- the seat at a generation, whoever has it
abbrev pub IsAt : World → ℕ → Type 0
IsAt world g = (holder : DaemonId) × (world.seat ≡ Some (record { generation = g; daemon = holder }))

-- the daemon has the seat
abbrev pub HasSeat : World → DaemonId → Type 0
HasSeat world daemon = (g : ℕ) × (world.seat ≡ Some (record { generation = g; daemon = daemon }))

-- a move may happen in the world
abbrev pub MayMove : World → Move → Type 0
MayMove world (issue ask) = MayIssue world ask
MayMove world (issue_item item) = MayForget world item
MayMove world (work unique answer) = MayWork world (first_where (is_asked unique) world.asks) answer
MayMove world (work_item item) = IsSome (first_where (is_item item) world.items)
MayMove world (accept unique daemon) = IsSome (first_where (is_replied unique) world.replies) × HasSeat world daemon
MayMove world (deliver unique) = IsSome (first_where (is_replied unique) world.replies)
MayMove world (mount daemon) = world.seat ≡ None
MayMove world (claim g daemon) = IsAt world g
MayMove world end = IsSome world.seat

-- the names after a number was given out for a file: the number names the file from then on, unless it named one before
abbrev pub names_after : List (ℕ × FileId) → Option Number → Option FileId → List (ℕ × FileId)
names_after names (Some number) (Some file) =
    if is_some (file_named names number.0) then names else (number.0, file) ∷ names
names_after names number file = names

-- the world after an ask got its answer: the reply takes the ask's place
abbrev pub worked : World → Answer → Option Ask → World
worked world answer (Some ask) = record world {
  tree = tree_after world.tree (effect_in world ask.what) answer;
  names = names_after world.names (given_out answer) (file_told (effect_in world ask.what));
  asks = without_where (is_asked ask.unique) world.asks;
  replies = world.replies ++ record { unique = ask.unique; answer = answer } ∷ [];
}
worked world answer None = world

-- the daemons that answered, each with its generation, with this daemon added at the seat's generation
abbrev pub answered_by : World → DaemonId → List Seat
answered_by world daemon =
    option_map_or (λ (seat : Seat). record { generation = seat.generation; daemon = daemon } ∷ world.answered)
    world.seat world.answered

-- what the kernel holds after an answer: the number that the answer gives out is held once more
abbrev pub held_after : List ℕ → Answer → List ℕ
held_after held answer = option_map_or (λ (number : Number). number.0 ∷ held) (given_out answer) held

-- the world after a reply reached the kernel
abbrev pub delivered : World → Option Reply → World
delivered world (Some reply) =
    record world {
      held = held_after world.held reply.answer;
      replies = without_where (is_replied reply.unique) world.replies;
    }
delivered world None = world

-- the world after a move
abbrev pub after : World → Move → World
after world (issue ask) = record world { asks = world.asks ++ ask ∷ []; uniques = ask.unique ∷ world.uniques }
after world (issue_item item) =
    record world { held = without_times item.k item.node.0 world.held; items = world.items ++ item ∷ [] }
after world (work unique answer) = worked world answer (first_where (is_asked unique) world.asks)
after world (work_item item) = record world { items = without_where (is_item item) world.items }
after world (accept unique daemon) = record world { answered = answered_by world daemon }
after world (deliver unique) = delivered world (first_where (is_replied unique) world.replies)
after world (mount daemon) = record world {
  seat = Some (record { generation = world.last + 1; daemon = daemon });
  last = world.last + 1;
  tree = tree_of world.manifest;
  names = (1, root) ∷ [];
}
after world (claim g daemon) =
    record world { seat = Some (record { generation = g + 1; daemon = daemon }); last = g + 1 }
after world end = record world { seat = None; held = []; asks = []; items = []; replies = []; names = (1, root) ∷ [] }

-- each move may happen in the world after the moves before it
abbrev pub IsRun : World → List Move → Type 0
IsRun world [] = Unit {0}
IsRun world (move ∷ moves) = MayMove world move × IsRun (after world move) moves

-- the world after a list of moves
abbrev pub after_all : World → List Move → World
after_all world [] = world
after_all world (move ∷ moves) = after_all (after world move) moves
