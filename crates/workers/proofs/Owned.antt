-- Both owners of what a request is answered get a legal answer: the answer itself, or ENOMEM for a buffer.
use Rattle.std.proofs.Common.{◌≡◌, ℕ, Bool, List, Option, Some, None, ap, subst}
use Rattle.eden_base.specs.declared.errno.Errno.TheVariants.{EIO, ENOMEM}
use Rattle.fuse_wire.specs.declared.reply.Answer.{Answer}
use Rattle.fuse_wire.specs.declared.reply.Answer.TheVariants.{Buffer, Error}
use Rattle.fuse_wire.specs.declared.request.Request.{Request}
use Rattle.inode_map.specs.InodeMap.{MapState}
use Rattle.fuse_ops.specs.Loading.{AsksAs, FailsAs, Loads}
use Rattle.fuse_ops.specs.Served.{Replay, ServedState}
use Rattle.fuse_ops.proofs.Owned.{by-owner, lacks-replay}
use Rattle.workers.specs.Owned.{StandsForIt}

-- what holds of the answer, and of ENOMEM if the answer is a buffer, holds of what an owner gets
by-outcome : (answer owned : Option Answer) → StandsForIt answer owned → (P : Option Answer → Type 0) → P answer → ((bytes : List ℕ) → answer ≡ Some (Buffer bytes) → P (Some (Error ENOMEM))) → P owned
by-outcome (Some answer) (Some owned) stands P same lacks = by-owner answer owned stands (λ (a : Answer). P (Some a)) same (λ bytes is. lacks bytes (ap (λ (a : Answer). Some a) is))
by-outcome None None stands P same lacks = same
by-outcome (Some answer) None stands P same lacks = absurd stands
by-outcome None (Some owned) stands P same lacks = absurd stands

module _ (answer owned : Option Answer) (stands : StandsForIt answer owned) where
  pub owned-replay : (old : ServedState) (request : Request) (new : ServedState) → Replay old request answer new → Replay old request owned new
  owned-replay old request new replay = by-outcome answer owned stands (λ (o : Option Answer). Replay old request o new) replay
      (λ bytes is. lacks-replay old request bytes new (subst (λ (o : Option Answer). Replay old request o new) is replay))

  pub owned-loads : (old : MapState) (request : Request) (new : MapState) → Loads old request answer new → Loads old request owned new
  owned-loads old request new loads = by-outcome answer owned stands (λ (o : Option Answer). Loads old request o new) loads
      (λ bytes is. subst (λ (o : Option Answer). Loads old request o new) is loads)

  pub owned-fails : (before after : ℕ) → FailsAs answer before after → FailsAs owned before after
  owned-fails before after fails = by-outcome answer owned stands (λ (o : Option Answer). FailsAs o before after) fails
      (λ bytes is. record {
        eio = λ e. absurd (let none : ⊥ = cc in none);
        answered = λ other. fails.answered (λ e. let none : ⊥ = cc in none);
      })

  pub owned-asks : (served : ServedState) (request : Request) (will : Option Bool) → AsksAs served request answer will → AsksAs served request owned will
  owned-asks served request will asks = by-outcome answer owned stands (λ (o : Option Answer). AsksAs served request o will) asks
      (λ bytes is. record {
        eio = λ e. absurd (let none : ⊥ = cc in none);
        failing = λ known asked. absurd (let told : answer ≡ Some (Error EIO) = asks.failing known asked in let none : ⊥ = cc in none);
        answering = λ known e. let none : ⊥ = cc in none;
      })
