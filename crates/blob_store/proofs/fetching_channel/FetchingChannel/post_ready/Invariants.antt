-- So far replies that waited were posted, and as many wait as are not posted. Those before the place were looked at.
use Rattle.std.specs.Prelude.{◌≡◌, ◌≤◌, ◌+◌, length}
use Rattle.blob_store.specs.Fetching.{PostsWaiting, inner_of, store_of, waiting_of}
use Rattle.blob_store.proofs.fetching_channel.FetchingChannel.post_ready.Given as goal

abbrev pub invariant-loop-reply : goal.invariant-loop-reply
invariant-loop-reply g l =
    (store_of l.self ≡ store_of l.fn.self)
    × (l.place + length (waiting_of l.fn.self) ≡ l._reply + length (waiting_of l.self))
    × (l.place ≤ l._reply)
    × PostsWaiting g.C.Channel.posts (g.S.BlobStore.reads (store_of l.fn.self)) (waiting_of l.fn.self) (inner_of l.fn.self)
    (waiting_of l.self) (inner_of l.self)
