-- When a round's receipts are its journal, so that the round has one history. (This project's own.)
use Rattle.std.specs.Prelude.{◌≡◌, ◌<◌, ℕ, List, length, Some, slice_get, EachIndex, nat_eq}
use Rattle.std.specs.List.{All, AllAdjacentBelow, count_by, sum_by}
use Rattle.journal.specs.Journal.{applied}
use Rattle.journal.specs.Receipts.{ReceiptsState}
use Rattle.journal.specs.declared.journal.Record.{Record}
use Rattle.journal.specs.declared.receipt.Receipt.{Receipt}

-- the record at the receipt's index has the receipt's request and its answer
abbrev pub IsOf : List Record → Receipt → Type 0
IsOf records receipt = slice_get records receipt.position ≡ Some (applied receipt.ask.what receipt.answer)

-- each receipt's index is below that of the next receipt
abbrev pub IsRising : List Receipt → Type 0
IsRising receipts = AllAdjacentBelow (λ (one next : Receipt). one.position < next.position) receipts (length receipts)

-- how many of these receipts have this index
abbrev pub times : List Receipt → ℕ → ℕ
times receipts position = count_by (λ (receipt : Receipt). nat_eq receipt.position position) receipts

-- how many receipts of all workers have this index
abbrev pub times_in_all : List ReceiptsState → ℕ → ℕ
times_in_all workers position = sum_by (λ (kept : ReceiptsState). times kept.list position) workers

-- a round is settled: each receipt is that of its record, each worker's indices rise, and each index has one
-- receipt
pub record IsSettled (records : List Record) (workers : List ReceiptsState) : Type 0 where
  pub same : All (λ (kept : ReceiptsState). All (IsOf records) kept.list) workers
  pub rising : All (λ (kept : ReceiptsState). IsRising kept.list) workers
  pub once : EachIndex records (λ (position : ℕ). times_in_all workers position ≡ 1)
