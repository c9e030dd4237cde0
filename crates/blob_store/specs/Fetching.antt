-- What is posted to the kernel in place of an extent, whose bytes are fetched from a store, and which replies wait until
-- their bytes have come. (This project's own.)
use Rattle.std.specs.Prelude.{◌≡◌, ◌==◌, ◌<◌, ◌⊎◌, Bool, true, false, ℕ, List, [], ◌∷◌, ◌++◌, length, slice_get, Option, Some, None, Result, Ok, Err}
use Rattle.std.specs.List.{remove}
use Rattle.eden_base.specs.declared.errno.Errno.TheVariants.{EIO, ENOMEM}
use Rattle.fuse_wire.specs.declared.reply.Answer.{Answer}
use Rattle.fuse_wire.specs.declared.reply.Answer.TheVariants.{Buffer, Extent as AnExtent, Error}
use Rattle.fuse_wire.specs.declared.reply.Extent.{Extent}
use Rattle.fuse_wire.specs.declared.reply.Reply.{Reply}
use Rattle.workers.specs.declared.channel.NextAsk.{NextAsk}
use Rattle.workers.specs.declared.channel.NextAsk.TheVariants as took
use Rattle.workers.specs.declared.channel.Posted.{Posted}
use Rattle.workers.specs.declared.channel.Posted.TheVariants as post
use Rattle.blob_store.specs.Reads.{IsGiven, Reads}
use Rattle.blob_store.specs.declared.blob_store.BlobFault.{BlobFault}
use Rattle.blob_store.specs.declared.blob_store.BlobFault.TheVariants.{NoMemory, Failed}
use Rattle.blob_store.specs.declared.fetching_channel.FetchingChannel.{FetchingChannel}
use Rattle.blob_store.specs.declared.waiting_replies.WaitingReply.{WaitingReply}

-- the channel below, the store, and the replies that wait for their bytes
abbrev pub inner_of : {C S : Type 0} → FetchingChannel C S → C
inner_of channel = channel.channel

abbrev pub store_of : {C S : Type 0} → FetchingChannel C S → S
store_of channel = channel.store

abbrev pub waiting_of : {C S : Type 0} → FetchingChannel C S → List WaitingReply
waiting_of channel = channel.waiting

-- ---- what is told

-- the answer to a READ, by what a read of the store gave
abbrev pub answer_of : Result (List ℕ) BlobFault → Answer
answer_of (Ok bytes) = Buffer bytes
answer_of (Err Failed) = Error EIO
answer_of (Err NoMemory) = Error ENOMEM

-- what the store gave for this extent is told
pub record IsRead (reads : Reads) (extent : Extent) (told : Answer) : Type 0 where
  pub given : Result (List ℕ) BlobFault
  pub is_given : IsGiven reads extent given
  pub is_told : told ≡ answer_of given

-- what is told of an extent: of one without bytes no bytes, for which no store is asked
abbrev pub IsFetched : Bool → Reads → Extent → Answer → Type 0
IsFetched true reads extent told = told ≡ Buffer []
IsFetched false reads extent told = IsRead reads extent told

-- what is told for an answer: of an extent its bytes, and each other answer as it is
abbrev pub IsToldFor : Reads → Answer → Answer → Type 0
IsToldFor reads (AnExtent extent) told = IsFetched (extent.len == 0) reads extent told
IsToldFor reads answer told = told ≡ answer

-- what is told for a reply
abbrev pub IsTold : Reads → Reply → Reply → Type 0
IsTold reads reply told = (told.unique ≡ reply.unique) × IsToldFor reads reply.answer told.answer

-- what is told for a reply that waited
abbrev pub IsToldAfter : Reads → WaitingReply → Reply → Type 0
IsToldAfter reads waited told = (told.unique ≡ waited.unique) × IsRead reads waited.read.extent told.answer

-- ---- posting

-- Below, `posts` is what posting a reply does to the channel below, which a reply finds as it was `before` and leaves as it
-- is `after`.

-- a reply is posted at once, with what is told for it
pub record PostsNow {C : Type 0} (posts : C → Reply → Posted → C → Type 0) (reads : Reads) (reply : Reply) (posted : Posted)
    (before after : C) : Type 0 where
  pub told : Reply
  pub is_told : IsTold reads reply told
  pub posts_so : posts before told posted after

-- the answer of a reply is an extent with bytes, and it waits for them after the others, of which there were fewer than 64
pub record Keeps (reply : Reply) (posted : Posted) (before after : List WaitingReply) : Type 0 where
  pub waits : WaitingReply
  pub unique : waits.unique ≡ reply.unique
  pub extent : reply.answer ≡ AnExtent waits.read.extent
  pub some : (waits.read.extent.len == 0) ≡ false
  pub most : length before < 64
  pub last : after ≡ before ++ waits ∷ []
  pub done : posted ≡ post.Done

-- what becomes of a reply: it is posted now, and nothing else changes; or it waits
abbrev pub Posts :
    {C S : Type 0} → (C → Reply → Posted → C → Type 0) → (S → Reads) →
    FetchingChannel C S → Reply → Posted → FetchingChannel C S → Type 0
Posts posts reads before reply posted after =
    (store_of after ≡ store_of before)
    × ((PostsNow posts (reads (store_of before)) reply posted (inner_of before) (inner_of after)
    × (waiting_of after ≡ waiting_of before))
    ⊎ (Keeps reply posted (waiting_of before) (waiting_of after) × (inner_of after ≡ inner_of before)))

-- ---- replies that waited

-- the reply at a place among those that waited was posted
pub record PostsOne {C : Type 0} (posts : C → Reply → Posted → C → Type 0) (reads : Reads) (place : ℕ)
    (waiting : List WaitingReply) (before : C) (posted : Posted) (left : List WaitingReply) (after : C) : Type 0 where
  pub waited : WaitingReply
  pub told : Reply
  pub stood : slice_get waiting place ≡ Some waited
  pub is_told : IsToldAfter reads waited told
  pub posts_so : posts before told posted after
  pub rest : left ≡ remove waiting place

-- replies that waited were posted, one after another
pub data PostsWaiting {C : Type 0} (posts : C → Reply → Posted → C → Type 0) (reads : Reads)
    (waiting : List WaitingReply) (before : C) : List WaitingReply → C → Type 0 where
  Nothing : PostsWaiting posts reads waiting before waiting before
  OneMore : {left left' : List WaitingReply} {mid after : C} (place : ℕ) → PostsWaiting posts reads waiting before left mid →
      PostsOne posts reads place left mid post.Done left' after → PostsWaiting posts reads waiting before left' after

-- replies that waited were posted, and the next one found the channel broken
pub record BreaksWaiting {C : Type 0} (posts : C → Reply → Posted → C → Type 0) (reads : Reads)
    (waiting : List WaitingReply) (before : C) (left : List WaitingReply) (after : C) : Type 0 where
  pub last : List WaitingReply
  pub mid : C
  pub posted : PostsWaiting posts reads waiting before last mid
  pub place : ℕ
  pub broken : PostsOne posts reads place last mid post.Broken left after

-- what came of posting replies that waited
abbrev pub PostsReady :
    {C : Type 0} → (C → Reply → Posted → C → Type 0) → Reads →
    (waiting : List WaitingReply) (before : C) (posted : Posted) (left : List WaitingReply) (after : C) → Type 0
PostsReady posts reads waiting before post.Done left after = PostsWaiting posts reads waiting before left after
PostsReady posts reads waiting before post.Broken left after = BreaksWaiting posts reads waiting before left after

-- What came of a look at the reply at a place: it was posted, or it waits on.
abbrev pub LooksAtReply :
    {C : Type 0} → (C → Reply → Posted → C → Type 0) → Reads → (place : ℕ)
    → (waiting : List WaitingReply) (before : C) (posted : Option Posted) (left : List WaitingReply) (after : C) → Type 0
LooksAtReply posts reads place waiting before None left after = (left ≡ waiting) × (after ≡ before)
LooksAtReply posts reads place waiting before (Some posted) left after =
    PostsOne posts reads place waiting before posted left after

-- no reply waits any more, unless the channel is broken
abbrev pub LeavesNone : Posted → List WaitingReply → Type 0
LeavesNone post.Done left = left ≡ []
LeavesNone post.Broken left = Unit {0}

-- what came of posting replies that waited, to a whole channel
abbrev pub PostsReadyOf :
    {C S : Type 0} → (C → Reply → Posted → C → Type 0) → (S → Reads) →
    FetchingChannel C S → Posted → FetchingChannel C S → Type 0
PostsReadyOf posts reads before posted after =
    (store_of after ≡ store_of before)
    × PostsReady posts (reads (store_of before)) (waiting_of before) (inner_of before) posted (waiting_of after) (inner_of after)

-- ---- taking

-- the next ask was taken of the channel below, or that was found broken before
abbrev pub TakesAfter : {C : Type 0} → (C → NextAsk → C → Type 0) → Posted → C → NextAsk → C → Type 0
TakesAfter takes post.Done mid taken after = takes mid taken after
TakesAfter takes post.Broken mid taken after = (taken ≡ took.Broken) × (after ≡ mid)

-- what taking an ask does: first the replies are posted whose bytes have come
pub record Takes {C S : Type 0} (takes : C → NextAsk → C → Type 0) (posts : C → Reply → Posted → C → Type 0)
    (reads : S → Reads) (before : FetchingChannel C S) (taken : NextAsk) (after : FetchingChannel C S) : Type 0 where
  pub ready : FetchingChannel C S
  pub posted : Posted
  pub posts_ready : PostsReadyOf posts reads before posted ready
  pub takes_so : TakesAfter takes posted (inner_of ready) taken (inner_of after)
  pub waiting : waiting_of after ≡ waiting_of ready
  pub store : store_of after ≡ store_of ready
