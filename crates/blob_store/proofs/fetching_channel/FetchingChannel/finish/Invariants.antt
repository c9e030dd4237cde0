-- So far replies that waited were posted, the first one each time.
use Rattle.std.specs.Prelude.{◌≡◌, ◌+◌, length}
use Rattle.blob_store.specs.Fetching.{PostsWaiting, inner_of, store_of, waiting_of}
use Rattle.blob_store.proofs.fetching_channel.FetchingChannel.finish.Given as goal

abbrev pub invariant-loop-reply : goal.invariant-loop-reply
invariant-loop-reply g l =
    (store_of l.self ≡ store_of l.fn.self)
    × (l._reply + length (waiting_of l.self) ≡ length (waiting_of l.fn.self))
    × PostsWaiting g.C.Channel.posts (g.S.BlobStore.reads (store_of l.fn.self)) (waiting_of l.fn.self) (inner_of l.fn.self)
    (waiting_of l.self) (inner_of l.self)
