-- What a worker does to its channel, and how the worker ends. (This project's own.)
use Rattle.std.specs.Prelude.{◌≡◌, ◌≤◌, ◌⊎◌, ℕ, Bool, true, false, List, [], ◌∷◌, ◌++◌, length, Option, Some, None, ⊤}
use Rattle.fuse_wire.specs.declared.reply.Answer.{Answer}
use Rattle.fuse_wire.specs.declared.reply.Reply.{Reply}
use Rattle.journal.specs.Receipts.{ReceiptsState}
use Rattle.journal.specs.declared.receipt.Receipt.{Receipt}
use Rattle.workers.specs.Channel.{Reported, grown}
use Rattle.workers.specs.declared.channel.NextAsk.{NextAsk}
use Rattle.workers.specs.declared.channel.NextAsk.TheVariants as took
use Rattle.workers.specs.declared.channel.Posted.{Posted}
use Rattle.workers.specs.declared.channel.Posted.TheVariants as post
use Rattle.workers.specs.declared.worker.WorkerEnd.{WorkerEnd}
use Rattle.workers.specs.declared.worker.WorkerEnd.TheVariants.{Done, OutOfMemory, Broken}

-- Below, `takes` is what taking an ask does to a channel, and `posts` what posting a reply does to it.

-- the result of posting the reply to an ask, if there is an answer; without an answer nothing is posted
abbrev pub Replies : {C : Type 0} → (C → Reply → Posted → C → Type 0) → C → ℕ → Option Answer → Posted → C → Type 0
Replies posts before unique (Some answer) posted after =
    posts before (record { unique = unique; answer = answer }) posted after
Replies posts before unique None post.Done after = after ≡ before
Replies posts before unique None post.Broken after = ⊥

-- one turn: the receipt's ask was taken, and this is the result of posting its reply
abbrev pub Turns :
    {C : Type 0} → (C → NextAsk → C → Type 0) → (C → Reply → Posted → C → Type 0) → C → Receipt → Posted → C → Type 0
Turns {C} takes posts before receipt posted after =
    (held : C) × takes before (took.Ask receipt.ask) held
    × Replies posts held receipt.ask.unique receipt.answer posted after

-- turns one after another, each of which took the receipt's ask and posted its reply
abbrev pub Goes :
    {C : Type 0} → (C → NextAsk → C → Type 0) → (C → Reply → Posted → C → Type 0) → C → List Receipt → C → Type 0
Goes takes posts before [] after = after ≡ before
Goes {C} takes posts before (first ∷ rest) after =
    (next : C) × Turns takes posts before first post.Done next × Goes takes posts next rest after

-- such turns, and then a `take` with this result
abbrev pub Finds :
    {C : Type 0} → (C → NextAsk → C → Type 0) → (C → Reply → Posted → C → Type 0) → C → List Receipt → NextAsk → C → Type 0
Finds {C} takes posts before receipts taken after =
    (last : C) × Goes takes posts before receipts last × takes last taken after

-- such turns, and then one whose reply found the channel broken
abbrev pub Fails :
    {C : Type 0} → (C → NextAsk → C → Type 0) → (C → Reply → Posted → C → Type 0) → C → List Receipt → C → Type 0
Fails {C} takes posts before receipts after =
    (front : List Receipt) × (final : Receipt) × (last : C) × (receipts ≡ front ++ final ∷ [])
    × Goes takes posts before front last × Turns takes posts last final post.Broken after

-- How a worker ends. Done: each reply was posted, and then the worker took no more, or found that there is no ask now,
-- or that there will be none. OutOfMemory: each reply was posted, and the spare room is used. Broken: the channel was,
-- when an ask was to be taken or a reply to be posted.
abbrev pub Ends :
    {C : Type 0} → (C → NextAsk → C → Type 0) → (C → Reply → Posted → C → Type 0)
    → C → List Receipt → WorkerEnd → C → Type 0
Ends takes posts before receipts Done after =
    Goes takes posts before receipts after
    ⊎ (Finds takes posts before receipts took.Empty after ⊎ Finds takes posts before receipts took.Stopped after)
Ends takes posts before receipts OutOfMemory after = Goes takes posts before receipts after
Ends takes posts before receipts Broken after =
    Finds takes posts before receipts took.Broken after ⊎ Fails takes posts before receipts after

-- a worker goes on, or ends in this way
abbrev pub GoesOrEnds :
    {C : Type 0} → (C → NextAsk → C → Type 0) → (C → Reply → Posted → C → Type 0)
    → C → List Receipt → Option WorkerEnd → C → Type 0
GoesOrEnds takes posts before receipts None after = Goes takes posts before receipts after
GoesOrEnds takes posts before receipts (Some ending) after = Ends takes posts before receipts ending after

-- a worker goes on, or ended without finding its channel broken: it took and posted all that its receipts say
abbrev pub is_well : Option WorkerEnd → Bool
is_well (Some Broken) = false
is_well ending = true

-- Whether a worker's spare room is still there, by how the worker ended. It is gone if the worker is OutOfMemory, may be
-- gone if its channel is Broken, and else is there.
abbrev pub LeavesSpare : Option WorkerEnd → Bool → Type 0
LeavesSpare (Some Broken) spare = ⊤
LeavesSpare (Some OutOfMemory) spare = spare ≡ false
LeavesSpare ending spare = spare ≡ true

-- what a worker does after a turn whose reply was posted: it goes on if its spare room is there, else it ends
abbrev pub after_turn : Bool → Option WorkerEnd
after_turn true = None
after_turn false = Some OutOfMemory

-- the ending of a worker that ended well, by whether its spare room is there
abbrev pub ending_by : Bool → WorkerEnd
ending_by true = Done
ending_by false = OutOfMemory

-- if a channel reports its lists and its worker ended well, then they grew by the worker's receipts
abbrev pub Reports : Bool → WorkerEnd → Reported → Reported → List Receipt → Type 0
Reports reports ending before after receipts =
    reports ≡ true → is_well (Some ending) ≡ true → after ≡ grown before receipts

-- what a worker did: how it ended, what its channel reports, how many turns it had at most, and whether its spare room is
-- there
pub record HasWorked
    {C : Type 0} (takes : C → NextAsk → C → Type 0) (posts : C → Reply → Posted → C → Type 0)
    (reports : Bool) (reported : C → Reported) (turns : ℕ)
    (before : C) (kept : ReceiptsState) (ending : WorkerEnd) (after : C) : Type 0 where
  pub ends : Ends takes posts before kept.list ending after
  pub lists : Reports reports ending (reported before) (reported after) kept.list
  pub most : length kept.list ≤ turns
  pub spare : LeavesSpare (Some ending) kept.spare
