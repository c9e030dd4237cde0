-- The memory that rounds work in. (This project's own.)
use Rattle.std.specs.Prelude.{◌≡◌, ◌+◌, ◌*◌, ◌≤◌, ℕ, List, [], length}
use Rattle.std.specs.List.{All}
use Rattle.journal.specs.Journal.{JournalState}
use Rattle.journal.specs.Receipts.{IsFresh, ReceiptsState}

-- buffers: a journal, the receipts of each worker, and how many workers there are
pub record BuffersState : Type 0 where
  pub journal : JournalState
  pub receipts : List ReceiptsState
  pub workers : ℕ

-- buffers with this journal, these receipts and this count of workers
abbrev pub buffers_of : JournalState → List ReceiptsState → ℕ → BuffersState
buffers_of journal receipts workers = record { journal = journal; receipts = receipts; workers = workers }

-- a round of these channels and turns needs no more memory than these buffers: they are empty, have room for these
-- channels and turns, and each worker has its spare room
pub record Fit (channels turns : ℕ) (buffers : BuffersState) : Type 0 where
  pub empty : buffers.journal.records ≡ []
  pub room : channels * (turns + 1) ≤ buffers.journal.room + 1
  pub workers : buffers.workers ≡ channels
  pub fresh : All (IsFresh turns) buffers.receipts

-- there are places for the receipts of these turns, free or taken
abbrev pub HasPlaces : ℕ → ReceiptsState → Type 0
HasPlaces turns kept = turns ≤ kept.places + length kept.list

-- there is room for a round of these channels and turns, free or taken, with or without spare rooms
pub record HaveRoom (channels turns : ℕ) (buffers : BuffersState) : Type 0 where
  pub room : channels * (turns + 1) ≤ buffers.journal.room + length buffers.journal.records + 1
  pub workers : buffers.workers ≡ channels
  pub places : All (HasPlaces turns) buffers.receipts

-- there is no receipt
abbrev pub HasNone : ReceiptsState → Type 0
HasNone kept = kept.list ≡ []

-- the buffers `after` are empty, and have room for each round for which those `before` had room
pub record AreEmptied (before after : BuffersState) : Type 0 where
  pub records : after.journal.records ≡ []
  pub receipts : All HasNone after.receipts
  pub room : (channels turns : ℕ) → HaveRoom channels turns before → HaveRoom channels turns after
