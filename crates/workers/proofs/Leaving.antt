-- Channels as their workers leave them.
use Rattle.std.proofs.Common.{◌≡◌, ◌≤◌, ℕ, ◌⊎◌, inl, inr, Bool, List, [], ◌∷◌, ◌++◌, refl, sym, subst, arith}
use Rattle.fuse_wire.specs.declared.reply.Reply.{Reply}
use Rattle.journal.specs.Receipts.{ReceiptsState}
use Rattle.workers.specs.Channel.{Reported}
use Rattle.workers.specs.Round.{AreLeft, AreServed, Breaks, IsLeft, OneBreaks}
use Rattle.workers.specs.Endings.{HasWorked, ending_by}
use Rattle.workers.specs.declared.channel.NextAsk.{NextAsk}
use Rattle.workers.specs.declared.channel.Posted.{Posted}
use Rattle.workers.specs.declared.worker.WorkerEnd.{WorkerEnd}
use Rattle.workers.specs.declared.worker.WorkerEnd.TheVariants.{Done, Broken}

-- a worker that keeps its promise left its channel so
left_so :
    {C : Type 0} (takes : C → NextAsk → C → Type 0) (posts : C → Reply → Posted → C → Type 0)
    (reports : Bool) (reported : C → Reported) (turns : ℕ) (before after : C) (one : ReceiptsState) (ending : WorkerEnd) →
    HasWorked takes posts reports reported turns before one ending after → IsLeft takes posts turns before after
left_so takes posts reports reported turns before after one ending worked = (one.list, ending, worked.ends, worked.most)

-- channels that were served are left
pub left_served :
    {C : Type 0} (takes : C → NextAsk → C → Type 0) (posts : C → Reply → Posted → C → Type 0)
    (reports : Bool) (reported : C → Reported) (turns : ℕ) (befores afters : List C) (kept : List ReceiptsState) →
    AreServed takes posts reports reported turns befores afters kept → AreLeft takes posts turns befores afters
left_served takes posts reports reported turns [] [] [] done = tt
left_served takes posts reports reported turns (b ∷ bs) (a ∷ rest) (k ∷ ks) done = (
  left_so takes posts reports reported turns b a k (ending_by k.spare) done.0,
  left_served takes posts reports reported turns bs rest ks done.1,
)
left_served takes posts reports reported turns [] [] (k ∷ ks) done = absurd done
left_served takes posts reports reported turns [] (a ∷ rest) kept done = absurd done
left_served takes posts reports reported turns (b ∷ bs) [] kept done = absurd done
left_served takes posts reports reported turns (b ∷ bs) (a ∷ rest) [] done = absurd done

-- channels from which nothing was taken are left as they were
pub left_alone :
    {C : Type 0} (takes : C → NextAsk → C → Type 0) (posts : C → Reply → Posted → C → Type 0) (turns : ℕ)
    (channels : List C) → AreLeft takes posts turns channels channels
left_alone takes posts turns [] = tt
left_alone takes posts turns (first ∷ rest) =
    let none : 0 ≤ turns = omega arith in
    (([], Done, inl refl, none), left_alone takes posts turns rest)

-- one channel more is left after the others
left_more :
    {C : Type 0} (takes : C → NextAsk → C → Type 0) (posts : C → Reply → Posted → C → Type 0) (turns : ℕ)
    (befores afters : List C) (before after : C) →
    AreLeft takes posts turns befores afters → IsLeft takes posts turns before after →
    AreLeft takes posts turns (befores ++ before ∷ []) (afters ++ after ∷ [])
left_more takes posts turns [] [] before after all one = (one, tt)
left_more takes posts turns (b ∷ bs) (a ∷ rest) before after all one =
    (all.0, left_more takes posts turns bs rest before after all.1 one)
left_more takes posts turns [] (a ∷ rest) before after all one = absurd all
left_more takes posts turns (b ∷ bs) [] before after all one = absurd all

-- one channel more is left after others of which one broke
broke_before :
    {C : Type 0} (takes : C → NextAsk → C → Type 0) (posts : C → Reply → Posted → C → Type 0) (turns : ℕ)
    (befores afters : List C) (before after : C) →
    OneBreaks takes posts turns befores afters → IsLeft takes posts turns before after →
    OneBreaks takes posts turns (befores ++ before ∷ []) (afters ++ after ∷ [])
broke_before takes posts turns [] afters before after broke one = absurd broke
broke_before takes posts turns (b ∷ bs) [] before after broke one = absurd broke
broke_before takes posts turns (b ∷ bs) (a ∷ rest) before after (inl first) one =
    inl (first.0, left_more takes posts turns bs rest before after first.1 one)
broke_before takes posts turns (b ∷ bs) (a ∷ rest) before after (inr others) one =
    inr (others.0, broke_before takes posts turns bs rest before after others.1 one)

-- the channel after the others broke
broke_last :
    {C : Type 0} (takes : C → NextAsk → C → Type 0) (posts : C → Reply → Posted → C → Type 0) (turns : ℕ)
    (befores afters : List C) (before after : C) →
    AreLeft takes posts turns befores afters → Breaks takes posts turns before after →
    OneBreaks takes posts turns (befores ++ before ∷ []) (afters ++ after ∷ [])
broke_last takes posts turns [] [] before after all one = inl (one, tt)
broke_last takes posts turns (b ∷ bs) (a ∷ rest) before after all one =
    inr (all.0, broke_last takes posts turns bs rest before after all.1 one)
broke_last takes posts turns [] (a ∷ rest) before after all one = absurd all
broke_last takes posts turns (b ∷ bs) [] before after all one = absurd all

-- the popped channel is left beside those before it
pub left_with :
    {C : Type 0} (takes : C → NextAsk → C → Type 0) (posts : C → Reply → Posted → C → Type 0)
    (reports : Bool) (reported : C → Reported) (turns : ℕ) (all rest afters more_afters : List C)
    (before after : C) (one : ReceiptsState) (ending : WorkerEnd) →
    all ≡ rest ++ before ∷ [] → more_afters ≡ afters ++ after ∷ [] →
    HasWorked takes posts reports reported turns before one ending after →
    AreLeft takes posts turns rest afters → AreLeft takes posts turns all more_afters
left_with {C} takes posts reports reported turns all rest afters more_afters before after one ending all_are afters_are worked others =
    subst (λ (xs : List C). AreLeft takes posts turns xs more_afters) (sym all_are)
    (subst (λ (ys : List C). AreLeft takes posts turns (rest ++ before ∷ []) ys) (sym afters_are)
    (left_more takes posts turns rest afters before after others
    (left_so takes posts reports reported turns before after one ending worked)))

-- the popped channel was found broken, or one before it
pub broke_with :
    {C : Type 0} (takes : C → NextAsk → C → Type 0) (posts : C → Reply → Posted → C → Type 0)
    (reports : Bool) (reported : C → Reported) (turns : ℕ) (all rest afters more_afters : List C)
    (before after : C) (one : ReceiptsState) (ending : WorkerEnd) →
    all ≡ rest ++ before ∷ [] → more_afters ≡ afters ++ after ∷ [] →
    HasWorked takes posts reports reported turns before one ending after → AreLeft takes posts turns rest afters →
    (OneBreaks takes posts turns rest afters ⊎ (ending ≡ Broken)) → OneBreaks takes posts turns all more_afters
broke_with {C} takes posts reports reported turns all rest afters more_afters before after one ending all_are afters_are worked others broke =
    subst (λ (xs : List C). OneBreaks takes posts turns xs more_afters) (sym all_are)
    (subst (λ (ys : List C). OneBreaks takes posts turns (rest ++ before ∷ []) ys) (sym afters_are) (elim broke [
      | inl one_did ↦ broke_before takes posts turns rest afters before after one_did
          (left_so takes posts reports reported turns before after one ending worked)
      | inr its ↦ (let found = subst (λ (e : WorkerEnd). HasWorked takes posts reports reported turns before one e after) its worked in
          broke_last takes posts turns rest afters before after others (one.list, found.ends, found.most))
    ]))
