-- Each reply that waited is posted.
use Rattle.std.proofs.Common.{refl, arith}
use Rattle.blob_store.specs.Fetching.{Nothing}
use Rattle.blob_store.proofs.fetching_channel.FetchingChannel.finish.Goals as goal

pub loop-reply-init : goal.loop-reply-init
loop-reply-init g c = (refl, omega arith, Nothing)
