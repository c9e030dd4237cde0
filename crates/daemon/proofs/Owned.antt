-- What an owner of an answer gets is a legal answer, and EIO exactly if the answer is.
use Rattle.std.proofs.Common.{◌≡◌, Bool, Some, ap}
use Rattle.eden_base.specs.declared.errno.Errno.TheVariants.{EIO}
use Rattle.fuse_wire.specs.Sharing.{StandsFor}
use Rattle.fuse_wire.specs.declared.reply.Answer.{Answer}
use Rattle.fuse_wire.specs.declared.reply.Answer.TheVariants.{Error}
use Rattle.fuse_wire.specs.declared.request.Request.{Request}
use Rattle.fuse_ops.specs.Served.{ServedState}
use Rattle.fuse_ops.proofs.Owned.{owned-eio}
use Rattle.daemon.specs.Serving.{FailsSo}

-- the backing fails in the same cases
pub owned-fails_so : (fails : Bool) (served : ServedState) (request : Request) (answer owned : Answer) → StandsFor answer owned → FailsSo fails served request (Some answer) → FailsSo fails served request (Some owned)
owned-fails_so fails served request answer owned stands so = (
  λ e. so.0 (ap (λ (a : Answer). Some a) ((owned-eio answer owned stands).0 (let same : owned ≡ Error EIO = cc in same))),
  λ asked. ap (λ (a : Answer). Some a) ((owned-eio answer owned stands).1 (let same : answer ≡ Error EIO = (let s = so.1 asked in cc) in same)),
)
