-- Channels after a round, one more at a time.
use Rattle.std.proofs.Common.{◌≡◌, ℕ, Bool, List, [], ◌∷◌, ◌++◌, Option, Some, refl, sym, ap, subst}
use Rattle.std.specs.Option.{option_to_list}
use Rattle.fuse_wire.specs.declared.reply.Reply.{Reply}
use Rattle.journal.specs.Receipts.{ReceiptsState}
use Rattle.workers.specs.Channel.{Reported}
use Rattle.workers.specs.Round.{AreServed}
use Rattle.workers.specs.Endings.{HasWorked, LeavesSpare, ending_by}
use Rattle.workers.specs.declared.channel.NextAsk.{NextAsk}
use Rattle.workers.specs.declared.channel.Posted.{Posted}
use Rattle.workers.specs.declared.worker.WorkerEnd.{WorkerEnd}
use Rattle.workers.specs.declared.worker.WorkerEnd.TheVariants.{Done, OutOfMemory, Broken}

-- what was popped is the last of the list
pub popped_last :
    {X : Type 0} (all rest : List X) (popped : Option X) (one : X) →
    all ≡ rest ++ option_to_list popped → popped ≡ Some one → all ≡ rest ++ one ∷ []
popped_last {X} all rest popped one items is =
    subst (λ (o : Option X). all ≡ rest ++ option_to_list o) is items

-- a worker that ended well did so by its spare room
well_by :
    (ending : WorkerEnd) (spare : Bool) → LeavesSpare (Some ending) spare → (ending ≡ Broken → ⊥) →
    ending ≡ ending_by spare
well_by Done spare is not = ap ending_by (sym is)
well_by OutOfMemory spare is not = ap ending_by (sym is)
well_by Broken spare is not = absurd (not refl)

-- one channel more is served after the others
served_more :
    {C : Type 0} (takes : C → NextAsk → C → Type 0) (posts : C → Reply → Posted → C → Type 0)
    (reports : Bool) (reported : C → Reported) (turns : ℕ) (befores afters : List C) (kept : List ReceiptsState)
    (before after : C) (one : ReceiptsState) →
    AreServed takes posts reports reported turns befores afters kept →
    HasWorked takes posts reports reported turns before one (ending_by one.spare) after →
    AreServed takes posts reports reported turns (befores ++ before ∷ []) (afters ++ after ∷ []) (kept ++ one ∷ [])
served_more takes posts reports reported turns [] [] [] before after one done worked = (worked, tt)
served_more takes posts reports reported turns (b ∷ bs) (a ∷ rest) (k ∷ ks) before after one done worked =
    (done.0, served_more takes posts reports reported turns bs rest ks before after one done.1 worked)
served_more takes posts reports reported turns [] [] (k ∷ ks) before after one done worked = absurd done
served_more takes posts reports reported turns [] (a ∷ rest) kept before after one done worked = absurd done
served_more takes posts reports reported turns (b ∷ bs) [] kept before after one done worked = absurd done
served_more takes posts reports reported turns (b ∷ bs) (a ∷ rest) [] before after one done worked = absurd done

-- the popped channel is served beside those before it, where its worker ended well
pub served_with :
    {C : Type 0} (takes : C → NextAsk → C → Type 0) (posts : C → Reply → Posted → C → Type 0)
    (reports : Bool) (reported : C → Reported) (turns : ℕ) (all rest afters more_afters : List C)
    (kept more_kept : List ReceiptsState) (before after : C) (one : ReceiptsState) (ending : WorkerEnd) →
    all ≡ rest ++ before ∷ [] → more_afters ≡ afters ++ after ∷ [] → more_kept ≡ kept ++ one ∷ [] →
    (ending ≡ Broken → ⊥) → HasWorked takes posts reports reported turns before one ending after →
    AreServed takes posts reports reported turns rest afters kept →
    AreServed takes posts reports reported turns all more_afters more_kept
served_with {C} takes posts reports reported turns all rest afters more_afters kept more_kept before after one ending all_are afters_are kept_are well worked done =
    let by_spare = subst (λ (e : WorkerEnd). HasWorked takes posts reports reported turns before one e after)
    (well_by ending one.spare worked.spare well) worked in
    subst (λ (xs : List C). AreServed takes posts reports reported turns xs more_afters more_kept) (sym all_are)
    (subst (λ (ys : List C). AreServed takes posts reports reported turns (rest ++ before ∷ []) ys more_kept) (sym afters_are)
    (subst (λ (ks : List ReceiptsState). AreServed takes posts reports reported turns (rest ++ before ∷ []) (afters ++ after ∷ []) ks)
    (sym kept_are) (served_more takes posts reports reported turns rest afters kept before after one done by_spare)))
