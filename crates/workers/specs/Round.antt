-- What a round leaves of its channels. (This project's own.)
use Rattle.std.specs.Prelude.{◌≤◌, ◌⊎◌, ℕ, Bool, List, [], ◌∷◌, length, ⊤}
use Rattle.std.specs.List.{sum_by}
use Rattle.fuse_wire.specs.declared.reply.Reply.{Reply}
use Rattle.journal.specs.Receipts.{ReceiptsState}
use Rattle.journal.specs.declared.receipt.Receipt.{Receipt}
use Rattle.workers.specs.Channel.{Reported}
use Rattle.workers.specs.Endings.{Ends, HasWorked, ending_by}
use Rattle.workers.specs.declared.channel.NextAsk.{NextAsk}
use Rattle.workers.specs.declared.channel.Posted.{Posted}
use Rattle.workers.specs.declared.worker.WorkerEnd.{WorkerEnd}
use Rattle.workers.specs.declared.worker.WorkerEnd.TheVariants.{Broken}

-- A round turned each channel of the first list into the one at the same index of the second, as its worker's receipts
-- say. Each worker ended well: OutOfMemory if its spare room is used, else Done.
abbrev pub AreServed :
    {C : Type 0} → (C → NextAsk → C → Type 0) → (C → Reply → Posted → C → Type 0) → Bool → (C → Reported) → ℕ
    → List C → List C → List ReceiptsState → Type 0
AreServed takes posts reports reported turns [] [] [] = ⊤
AreServed takes posts reports reported turns (before ∷ befores) (after ∷ afters) (kept ∷ rest) =
    HasWorked takes posts reports reported turns before kept (ending_by kept.spare) after
    × AreServed takes posts reports reported turns befores afters rest
AreServed takes posts reports reported turns befores afters kept = ⊥

-- the worker of the channel `before` left it as `after`, after at most `turns` turns, in whatever way it ended
abbrev pub IsLeft :
    {C : Type 0} → (C → NextAsk → C → Type 0) → (C → Reply → Posted → C → Type 0) → ℕ → C → C → Type 0
IsLeft takes posts turns before after =
    (receipts : List Receipt) × (ending : WorkerEnd) × Ends takes posts before receipts ending after
    × (length receipts ≤ turns)

-- each channel of the first list was left as the one at the same index of the second
abbrev pub AreLeft :
    {C : Type 0} → (C → NextAsk → C → Type 0) → (C → Reply → Posted → C → Type 0) → ℕ → List C → List C → Type 0
AreLeft takes posts turns [] [] = ⊤
AreLeft takes posts turns (before ∷ befores) (after ∷ afters) =
    IsLeft takes posts turns before after × AreLeft takes posts turns befores afters
AreLeft takes posts turns befores afters = ⊥

-- the worker of the channel `before` found it broken, and left it as `after`
abbrev pub Breaks :
    {C : Type 0} → (C → NextAsk → C → Type 0) → (C → Reply → Posted → C → Type 0) → ℕ → C → C → Type 0
Breaks takes posts turns before after =
    (receipts : List Receipt) × Ends takes posts before receipts Broken after × (length receipts ≤ turns)

-- each channel of the first list was left as the one at the same index of the second, and one was found broken
abbrev pub OneBreaks :
    {C : Type 0} → (C → NextAsk → C → Type 0) → (C → Reply → Posted → C → Type 0) → ℕ → List C → List C → Type 0
OneBreaks takes posts turns (before ∷ befores) (after ∷ afters) =
    (Breaks takes posts turns before after × AreLeft takes posts turns befores afters)
    ⊎ (IsLeft takes posts turns before after × OneBreaks takes posts turns befores afters)
OneBreaks takes posts turns befores afters = ⊥

-- how many receipts these workers have
abbrev pub receipts_in : List ReceiptsState → ℕ
receipts_in kept = sum_by (λ (one : ReceiptsState). length one.list) kept
