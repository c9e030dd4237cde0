-- So far replies were posted whose bytes have come.
use Rattle.std.proofs.Common.{refl, arith}
use Rattle.blob_store.specs.Fetching.{Nothing}
use Rattle.blob_store.proofs.fetching_channel.FetchingChannel.post_ready.Goals as goal

pub loop-reply-init : goal.loop-reply-init
loop-reply-init g c = (refl, refl, omega arith, Nothing)
