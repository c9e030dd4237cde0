-- Buffers that fit a round, by what is looked at.
use Rattle.std.proofs.Common.{◌≡◌, ◌↔◌, ◌+◌, ◌*◌, ◌≤◌, ℕ, Bool, List, [], sym, subst}
use Rattle.std.specs.Prelude.{IsTrue}
use Rattle.std.specs.List.{All}
use Rattle.journal.specs.Journal.{JournalState}
use Rattle.journal.specs.Receipts.{IsFresh, ReceiptsState}
use Rattle.workers.specs.Buffers.{Fit, BuffersState, buffers_of}

-- where all else fits, the receipts decide
pub fit_by :
    (channels turns : ℕ) (buffers : BuffersState) (journal : JournalState) (receipts : List ReceiptsState) (workers : ℕ)
    (fresh : Bool) → buffers ≡ buffers_of journal receipts workers → journal.records ≡ [] →
    channels * (turns + 1) ≤ journal.room + 1 → workers ≡ channels →
    (IsTrue fresh ↔ All (IsFresh turns) receipts) → IsTrue fresh ↔ Fit channels turns buffers
fit_by channels turns buffers journal receipts workers fresh is empty room same decides =
    subst (λ (these : BuffersState). IsTrue fresh ↔ Fit channels turns these) (sym is) (
      λ yes. record { empty = empty; room = room; workers = same; fresh = decides.0 yes },
      λ fit. decides.1 fit.fresh,
    )
