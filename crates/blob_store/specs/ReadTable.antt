-- The reads that a pool of threads makes, in the order in which they were started. (This project's own.)
use Rattle.std.specs.Prelude.{◌≡◌, ◌==◌, ◌||◌, ℕ, Bool, true, false, List, slice_get, slice_set, Option, Some, None, Result}
use Rattle.std.specs.List.{remove}
use Rattle.std.specs.Duration.{as_nanos}
use Rattle.std.specs.declared.time.Instant.{Instant}
use Rattle.monitor.specs.Patience.{left_after}
use Rattle.monitor.specs.declared.patience.Patience.{Patience}
use Rattle.blob_store.specs.declared.blob_store.BlobFault.{BlobFault}
use Rattle.blob_store.specs.declared.blob_store.PendingRead.{PendingRead}
use Rattle.blob_store.specs.declared.blob_store.ReadEnding.{ReadEnding}
use Rattle.blob_store.specs.declared.read_table.PoolRead.{PoolRead}
use Rattle.blob_store.specs.declared.read_table.ReadEnd.{ReadEnd}
use Rattle.blob_store.specs.declared.read_table.ReadEnd.TheVariants.{Cut, Gave, Late}
use Rattle.blob_store.specs.declared.read_table.ReadStage.{ReadStage}
use Rattle.blob_store.specs.declared.read_table.ReadStage.TheVariants.{Waits, Runs, Ended}

-- whether this is the stage of a read that no thread has begun
abbrev pub is_first : ReadStage → Bool
is_first Waits = true
is_first stage = false

-- whether no thread has begun a read
abbrev pub is_waiting : PoolRead → Bool
is_waiting pool = is_first pool.stage

-- whether this is the stage of a read that has ended
abbrev pub is_last : ReadStage → Bool
is_last (Ended given) = true
is_last stage = false

-- whether a read has ended
abbrev pub has_ended : PoolRead → Bool
has_ended pool = is_last pool.stage

-- whether a read has this ticket
abbrev pub has_ticket : ℕ → PoolRead → Bool
has_ticket ticket pool = pool.read.ticket == ticket

-- a read at another stage
abbrev pub with_stage : ReadStage → PoolRead → PoolRead
with_stage stage pool = record { read = pool.read; stage = stage; patience = pool.patience }

-- the read at a place, if there is one, is what is begun, and runs from now on
abbrev pub BeginsAt : Option ℕ → List PoolRead → Option PendingRead → List PoolRead → Type 0
BeginsAt None old begun new = (begun ≡ None) × (new ≡ old)
BeginsAt (Some place) old begun new =
    (pool : PoolRead) × (slice_get old place ≡ Some pool) × (begun ≡ Some pool.read)
    × (new ≡ slice_set old place (with_stage Runs pool))

-- the read at a place, if there is one, has ended and gave this; what a forgotten one gave is dropped
abbrev pub EndsAt : Option ℕ → Result (List ℕ) BlobFault → List PoolRead → List PoolRead → Type 0
EndsAt None given old new = new ≡ old
EndsAt (Some place) given old new =
    (pool : PoolRead) × (slice_get old place ≡ Some pool) × (new ≡ slice_set old place (with_stage (Ended given) pool))

-- the read at a place, if there is one, is forgotten
abbrev pub ForgetsAt : Option ℕ → List PoolRead → List PoolRead → Type 0
ForgetsAt None old new = new ≡ old
ForgetsAt (Some place) old new = new ≡ remove old place

-- how a read ends that is at this stage as its wait ends
abbrev pub end_of : ReadStage → ReadEnd
end_of (Ended given) = Gave given
end_of stage = Late

-- how a read ends that is waited for no more: as it ended by itself, or else for this cause
abbrev pub ended_by : Option ReadEnd → ReadEnding → ReadEnd
ended_by (Some end) ending = end
ended_by None ending = Cut ending

-- how much longer a read may take, after a look at this moment
abbrev pub left_of : PoolRead → Option Instant → ℕ
left_of pool now = left_after (as_nanos pool.patience.left) pool.patience.looked now

-- a look left the patience of a read so
pub record IsLooked (old : PoolRead) (now : Option Instant) (new : Patience) : Type 0 where
  pub left : as_nanos new.left ≡ left_of old now
  pub looked : new.looked ≡ now

-- a look at the read at a place, which goes on if it has not ended and may take longer, and else is over and forgotten
abbrev pub LooksOn : Bool → ℕ → PoolRead → Option Instant → List PoolRead → Option ReadEnd → List PoolRead → Type 0
LooksOn true place pool now old told new = (told ≡ Some (end_of pool.stage)) × (new ≡ remove old place)
LooksOn false place pool now old told new =
    (patience : Patience) × IsLooked pool now patience × (told ≡ None)
    × (new ≡ slice_set old place (record { read = pool.read; stage = pool.stage; patience = patience }))

-- a look at the read at a place; one that is not there is late
abbrev pub LooksAt : Option ℕ → Option Instant → List PoolRead → Option ReadEnd → List PoolRead → Type 0
LooksAt None now old told new = (told ≡ Some Late) × (new ≡ old)
LooksAt (Some place) now old told new =
    (pool : PoolRead) × (slice_get old place ≡ Some pool)
    × LooksOn (has_ended pool || left_of pool now == 0) place pool now old told new
