-- What a channel in memory reports of an ask that was taken.
use Rattle.std.proofs.Common.{◌≡◌, ℕ, ◌+◌, zero, suc, List, [], ◌∷◌, ◌++◌, take, slice_get, Some, ap, ◌∙◌, subst, arith}
use Rattle.fuse_wire.specs.declared.request.Ask.{Ask}
use Rattle.workers.specs.Channel.{MemoryState, Takes, reported_of, with_ask}
use Rattle.workers.specs.declared.channel.NextAsk.{NextAsk}
use Rattle.workers.specs.declared.channel.NextAsk.TheVariants.{Ask as TheAsk}

-- the first ones and the next one
taken_more :
    {X : Type 0} (xs : List X) (count : ℕ) (x : X) → slice_get xs count ≡ Some x →
    take (suc count) xs ≡ take count xs ++ x ∷ []
taken_more [] count x is = absurd (let none : ⊥ = cc in none)
taken_more (first ∷ rest) zero x is = let same : first ≡ x = cc in ap (λ (y : _). y ∷ []) same
taken_more (first ∷ rest) (suc count) x is = ap (λ (ys : List _). first ∷ ys) (taken_more rest count x is)

-- an ask that was taken is reported after those before
pub reported_more :
    (old new : MemoryState) (taken : NextAsk) (ask : Ask) → Takes old taken new → taken ≡ TheAsk ask →
    reported_of new ≡ with_ask (reported_of old) ask
reported_more old new taken ask takes is =
    let steps = subst (λ (t : NextAsk). Takes old t new) is takes in
    let one_more : old.taken + 1 ≡ suc old.taken = omega arith in
    let asks = ap (λ (n : ℕ). take n old.asks) one_more ∙ taken_more old.asks old.taken ask steps.0 in
    ap reported_of steps.1 ∙ ap (λ (reported : List Ask). record { taken = reported; posted = old.replies }) asks
