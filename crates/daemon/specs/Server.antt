-- What a daemon serves, with its hand and the replies that it did not post yet. (This project's own.)
use Rattle.std.specs.Prelude.{◌≡◌, ℕ, ◌-◌, ◌==◌, Bool, List, [], ◌∷◌, ◌++◌, length, map, remove, slice_get, Option, Some, None, is_some, ◌||◌, if◌then◌else◌}
use Rattle.manifest.specs.Manifest.{Manifest}
use Rattle.fuse_wire.specs.Request.{is_ask, item_of, items_of}
use Rattle.fuse_wire.specs.declared.request.Ask.{Ask}
use Rattle.fuse_wire.specs.declared.request.Request.TheVariants.{Forget}
use Rattle.fuse_wire.specs.declared.item.Item.{Item}
use Rattle.fuse_wire.specs.declared.reply.Answer.{Answer}
use Rattle.fuse_wire.specs.declared.reply.Reply.{Reply}
use Rattle.broker_core.specs.Traffic.{without_unique}
use Rattle.inode_map.specs.InodeMap.{forgot}
use Rattle.fuse_ops.specs.Served.{ServedState, new_served}
use Rattle.daemon.specs.declared.happened.Happened.{Happened}
use Rattle.daemon.specs.declared.happened.Happened.TheVariants as happened
use Rattle.daemon.specs.declared.happened.Refusal.TheVariants as refusal

-- a server: the generation at which a daemon serves, what it serves, the asks and single items that it took and did not
-- work yet, and the replies that it did not post yet
pub record ServerState : Type 0 where
  pub generation : ℕ
  pub served : ServedState
  pub hand : List Ask
  pub unposted : List Reply

-- a server's hand is empty, and every reply is posted
pub record IsIdle (server : ServerState) : Type 0 where
  pub hand : server.hand ≡ []
  pub unposted : server.unposted ≡ []

-- the server of a daemon that just mounted
abbrev pub new_server : Manifest → ℕ → ℕ → ServerState
new_server manifest limit generation =
    record { generation = generation; served = new_served manifest limit; hand = []; unposted = [] }

-- the member of a list at a position, if there is one; the first position is 1
abbrev pub at_position : {X : Type 0} → List X → ℕ → Option X
at_position xs position = if position == 0 then None else slice_get xs (position - 1)

-- the list without its member at a position
abbrev pub without_position : {X : Type 0} → List X → ℕ → List X
without_position xs position = remove xs (position - 1)

-- ---- what it takes

-- one item as a request of its own
abbrev pub single : Item → Ask
single item = without_unique (Forget item)

-- what a taken request adds to the hand: an ask as it is, each item of a forget by itself
abbrev pub handed : Ask → List Ask
handed ask = if is_ask ask.what then ask ∷ [] else map single (items_of ask.what)

-- what is told of a take
abbrev pub told_taken : Ask → Happened
told_taken ask =
    if is_ask ask.what then happened.Took ask.unique else happened.TookForgets (length (items_of ask.what))

-- the server after a take
abbrev pub with_taken : ServerState → Ask → ServerState
with_taken server ask = record server { hand = server.hand ++ handed ask }

-- ---- what it works

-- whether a request is an ask, or a forget of one item
abbrev pub is_single : Ask → Bool
is_single task = is_ask task.what || is_some (item_of task.what)

-- the replies to a request: one to an ask, none to a forget
abbrev pub reply_to : Ask → Option Answer → List Reply
reply_to task None = []
reply_to task (Some answer) = record { unique = task.unique; answer = answer } ∷ []

-- what is told of an item that was applied
abbrev pub told_item : ServedState → Option Item → Happened
told_item served (Some item) = happened.Forgot item (forgot served.map item.node.0 item.k)
told_item served None = happened.Refused refusal.NoSuch

-- what is told of a request that was worked
abbrev pub told_worked : ServedState → Ask → Option Answer → Happened
told_worked served task (Some answer) = happened.Made (record { unique = task.unique; answer = answer })
told_worked served task None = told_item served (item_of task.what)

-- the server after the request at a position of its hand was worked
abbrev pub with_worked : ServerState → ℕ → Ask → Option Answer → ServedState → ServerState
with_worked server position task answer later = record server {
  served = later;
  hand = without_position server.hand position;
  unposted = server.unposted ++ reply_to task answer;
}

-- ---- what it posts

-- the server after its reply at a position was posted
abbrev pub with_posted : ServerState → ℕ → ServerState
with_posted server position = record server { unposted = without_position server.unposted position }
