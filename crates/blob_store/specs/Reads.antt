-- Reads of a store of blobs, of which some go on while their callers do something else. (This project's own.)
use Rattle.std.specs.Prelude.{◌≡◌, ◌⊎◌, ℕ, List, length, Result, Err, IfOk}
use Rattle.fuse_wire.specs.declared.reply.Extent.{Extent}
use Rattle.blob_store.specs.declared.blob_store.BlobFault.{BlobFault}
use Rattle.blob_store.specs.declared.blob_store.BlobFault.TheVariants.{Failed}
use Rattle.blob_store.specs.declared.blob_store.StartedRead.{StartedRead}
use Rattle.blob_store.specs.declared.blob_store.StartedRead.TheVariants.{Done, Pending}

-- what a store has at each extent
abbrev pub Reads : Type 1
Reads = Extent → Result (List ℕ) BlobFault → Type 0

-- a read of this extent gives this: what the store has there, and all its bytes, if it gives bytes
pub record IsGiven (reads : Reads) (extent : Extent) (given : Result (List ℕ) BlobFault) : Type 0 where
  pub reads_so : reads extent given
  pub whole : IfOk given (λ bytes. length bytes ≡ extent.len)

-- what came of a read by another thread is given where a read of this extent may give it, and else the read fails
abbrev pub IsChecked : Reads → Extent → (came given : Result (List ℕ) BlobFault) → Type 0
IsChecked reads extent came given =
    (IsGiven reads extent came × (given ≡ came)) ⊎ ((IsGiven reads extent came → ⊥) × (given ≡ Err Failed))

-- a read of this extent was started: it is over by what it gives, or it goes on
abbrev pub IsStarted : Reads → Extent → StartedRead → Type 0
IsStarted reads extent (Done given) = IsGiven reads extent given
IsStarted reads extent (Pending read) = read.extent ≡ extent
