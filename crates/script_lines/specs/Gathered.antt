-- What the members of queues count for each of 256 numbers, from a lowest one on. (This project's own.)
use Rattle.std.specs.Prelude.{◌≡◌, ℕ, ◌+◌, ◌*◌, ◌<◌, ◌≤◌, ◌^◌, List, [], length, sum_by, slice_index_or, Option, Some, None, if◌then◌else◌}
use Rattle.std.specs.Borrow.{Bor}
use Rattle.block_queue.specs.Queue.{Queue}
use Rattle.eden_base.specs.declared.number.DaemonId.{DaemonId}
use Rattle.broker_core.specs.Traffic.{gives}
use Rattle.fuse_wire.specs.declared.reply.Reply.{Reply}
use Rattle.world.specs.State.{State}
use Rattle.script_lines.specs.Printed.{taken_back_under_way, given_under_way}
use Rattle.script_lines.specs.declared.sums.Sums.{Sums}
use Rattle.script_lines.specs.declared.under_way.Counts.{Counts}
use Rattle.script_lines.specs.declared.under_way.UnderWay.{UnderWay}

-- the members of a queue, and none if there is no queue
abbrev pub members : {X : Type 0} → Option (Bor (Queue X)) → List X
members (Some queue) = queue.now.members
members None = []

-- how often a reply gives a number out: once, or not at all
abbrev pub given_by : ℕ → Reply → ℕ
given_by n reply = if gives n reply then 1 else 0

-- every sum is 0
abbrev pub AreZero : Sums → Type 0
AreZero sums = (i : ℕ) → i < 256 → slice_index_or sums.sums i 0 ≡ 0

-- every sum is below the bound
abbrev pub AreBelow : ℕ → Sums → Type 0
AreBelow bound sums = (i : ℕ) → i < 256 → slice_index_or sums.sums i 0 < bound

-- one member was added: each number's sum rises by what the member counts for the number
pub record IsAdded {T : Type 0} (count : ℕ → T → ℕ) (old : Sums) (member : T) (new : Sums) : Type 0 where
  pub low : new.low ≡ old.low
  pub sums : (i : ℕ) → i < 256 →
      slice_index_or new.sums i 0 ≡ slice_index_or old.sums i 0 + count (old.low + i) member
  pub more : (i : ℕ) → i < 256 → slice_index_or new.sums i 0 < slice_index_or old.sums i 0 + 2 ^ 64

-- members were added: each number's sum rises by what they count for the number
pub record AreAdded {T : Type 0} (count : ℕ → T → ℕ) (old : Sums) (added : List T) (new : Sums) : Type 0 where
  pub low : new.low ≡ old.low
  pub sums : (i : ℕ) → i < 256 →
      slice_index_or new.sums i 0 ≡ slice_index_or old.sums i 0 + sum_by (count (old.low + i)) added
  pub more : (i : ℕ) → i < 256 → slice_index_or new.sums i 0 ≤ slice_index_or old.sums i 0 + length added * 2 ^ 64

-- the sums for each number are what is under way on it
pub record IsGathered (state : State) (daemon : DaemonId) (gathered : UnderWay) : Type 0 where
  pub same : gathered.down.low ≡ gathered.up.low
  pub up : (i : ℕ) → i < 256 →
      slice_index_or gathered.up.sums i 0 ≡ taken_back_under_way state daemon (gathered.up.low + i)
  pub down : (i : ℕ) → i < 256 →
      slice_index_or gathered.down.sums i 0 ≡ given_under_way state daemon (gathered.down.low + i)

-- these counts are what is under way on a number
pub record AreUnderWay (state : State) (daemon : DaemonId) (n : ℕ) (counts : Counts) : Type 0 where
  pub up : counts.up ≡ taken_back_under_way state daemon n
  pub down : counts.down ≡ given_under_way state daemon n
