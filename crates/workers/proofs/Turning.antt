-- What a worker makes of its channel grows by a turn.
use Rattle.std.proofs.Common.{◌≡◌, Bool, true, false, List, [], ◌∷◌, ◌++◌, Option, refl, sym, subst, inr}
use Rattle.fuse_wire.specs.declared.reply.Reply.{Reply}
use Rattle.journal.specs.declared.receipt.Receipt.{Receipt}
use Rattle.workers.specs.Endings.{Ends, Goes, GoesOrEnds, Replies, Turns, after_turn}
use Rattle.workers.specs.declared.channel.NextAsk.{NextAsk}
use Rattle.workers.specs.declared.channel.NextAsk.TheVariants as took
use Rattle.workers.specs.declared.channel.Posted.{Posted}
use Rattle.workers.specs.declared.channel.Posted.TheVariants as post
use Rattle.workers.specs.declared.worker.WorkerEnd.{WorkerEnd}
use Rattle.workers.specs.declared.worker.WorkerEnd.TheVariants.{Broken}

-- one more turn, with its reply posted
goes_more :
    {C : Type 0} (takes : C → NextAsk → C → Type 0) (posts : C → Reply → Posted → C → Type 0)
    (start : C) (receipts : List Receipt) (final : Receipt) (before after : C) →
    Goes takes posts start receipts before → Turns takes posts before final post.Done after →
    Goes takes posts start (receipts ++ final ∷ []) after
goes_more {C} takes posts start [] final before after went turn =
    (after, subst (λ (c : C). Turns takes posts c final post.Done after) went turn, refl)
goes_more {C} takes posts start (first ∷ rest) final before after went turn =
    (went.0, went.1, goes_more takes posts went.0 rest final before after went.2 turn)

-- a turn whose reply was posted, of an ask that was taken before
pub turned_well :
    {C : Type 0} (takes : C → NextAsk → C → Type 0) (posts : C → Reply → Posted → C → Type 0)
    (start : C) (receipts later : List Receipt) (final : Receipt) (before held after : C) →
    later ≡ receipts ++ final ∷ [] → Goes takes posts start receipts before →
    takes before (took.Ask final.ask) held → Replies posts held final.ask.unique final.answer post.Done after →
    Goes takes posts start later after
turned_well {C} takes posts start receipts later final before held after is went taken replied =
    subst (λ (rs : List Receipt). Goes takes posts start rs after) (sym is)
    (goes_more takes posts start receipts final before after went (held, taken, replied))

-- a worker goes on after such a turn, or its spare room is used
pub goes_after :
    {C : Type 0} (takes : C → NextAsk → C → Type 0) (posts : C → Reply → Posted → C → Type 0)
    (start : C) (receipts : List Receipt) (after : C) (result : Option WorkerEnd) (spare : Bool) →
    result ≡ after_turn spare → Goes takes posts start receipts after →
    GoesOrEnds takes posts start receipts result after
goes_after takes posts start receipts after result true is went =
    subst (λ (r : Option WorkerEnd). GoesOrEnds takes posts start receipts r after) (sym is) went
goes_after takes posts start receipts after result false is went =
    subst (λ (r : Option WorkerEnd). GoesOrEnds takes posts start receipts r after) (sym is) went

-- a turn whose reply found the channel broken
pub turned_broken :
    {C : Type 0} (takes : C → NextAsk → C → Type 0) (posts : C → Reply → Posted → C → Type 0)
    (start : C) (receipts later : List Receipt) (final : Receipt) (before held after : C) →
    later ≡ receipts ++ final ∷ [] → Goes takes posts start receipts before →
    takes before (took.Ask final.ask) held → Replies posts held final.ask.unique final.answer post.Broken after →
    Ends takes posts start later Broken after
turned_broken takes posts start receipts later final before held after is went taken replied =
    inr (receipts, final, before, is, went, (held, taken, replied))
