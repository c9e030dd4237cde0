-- Replies that waited are posted, one after another.
use Rattle.std.proofs.Common.{◌≡◌, ℕ, ◌+◌, ◌<◌, Bool, true, false, List, length, slice_get, Option, Some, None, is_none, if◌then◌else◌, refl, ap, arith}
use Rattle.std.specs.List.{remove}
use Rattle.std.proofs.lemmas.List.Edits.{length-remove}
use Rattle.std.proofs.lemmas.Option.{slice_get_within}
use Rattle.fuse_wire.specs.declared.reply.Reply.{Reply}
use Rattle.workers.specs.declared.channel.Posted.{Posted}
use Rattle.workers.specs.declared.channel.Posted.TheVariants as post
use Rattle.blob_store.specs.Fetching.{LooksAtReply, OneMore, PostsOne, PostsWaiting}
use Rattle.blob_store.specs.Reads.{Reads}
use Rattle.blob_store.specs.declared.waiting_replies.WaitingReply.{WaitingReply}

module _ {C : Type 0} {posts : C → Reply → Posted → C → Type 0} {reads : Reads} where
  -- one more reply was posted
  pub one_more : {waiting left left' : List WaitingReply} {before mid after : C} (place : ℕ) (posted : Posted) →
      posted ≡ post.Done → PostsWaiting posts reads waiting before left mid → PostsOne posts reads place left mid posted left' after →
      PostsWaiting posts reads waiting before left' after
  one_more place post.Done e was one = OneMore place was one
  one_more place post.Broken e was one = absurd cc

  -- as many replies wait as waited, but for the one that was posted
  pub one_length : {left left' : List WaitingReply} {mid after : C} (place : ℕ) (posted : Posted) →
      PostsOne posts reads place left mid posted left' after → length left' + 1 ≡ length left
  one_length {left = left} place posted one =
      omega (arith, ap length one.rest, length-remove left place (slice_get_within left place one.waited one.stood))

-- The two below are of a look at a reply, which computes by what came of it.
module _ {C : Type 0} (posts : C → Reply → Posted → C → Type 0) (reads : Reads) where
  -- one more reply was posted, or none was
  pub looked_more : {waiting : List WaitingReply} {before : C} (left left' : List WaitingReply) (mid after : C) (place : ℕ)
      (looked : Option Posted) → (looked ≡ Some post.Broken → ⊥) → PostsWaiting posts reads waiting before left mid →
      LooksAtReply posts reads place left mid looked left' after → PostsWaiting posts reads waiting before left' after
  looked_more left left' mid after place (Some post.Done) whole was one = OneMore place was one
  looked_more left left' mid after place (Some post.Broken) whole was one = absurd (whole refl)
  looked_more left left' mid after place None whole was (e, f) = rw (e, f) was

  -- as many replies wait as waited, but for one if it was posted
  pub looked_length : (left left' : List WaitingReply) (mid after : C) (place : ℕ) (looked : Option Posted) →
      LooksAtReply posts reads place left mid looked left' after →
      length left' + 1 ≡ length left + (if is_none looked then 1 else 0)
  looked_length left left' mid after place (Some posted) one = omega (arith, one_length place posted one)
  looked_length left left' mid after place None (e, f) = omega (arith, ap length e)
