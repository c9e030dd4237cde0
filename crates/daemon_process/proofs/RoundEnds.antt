-- How a round ends a daemon, by the results of its calls.
use Rattle.std.proofs.Common.{◌≡◌, inr, Bool, List, Option, Some, Result, Ok, Err, refl, sym, subst, vec_len}
use Rattle.std.specs.Global.{Vec}
use Rattle.std.specs.Prelude.{IfOk, IfErr, OnErr}
use Rattle.broker_core.specs.declared.fault.TakeFault.{TakeFault}
use Rattle.fuse_wire.specs.declared.reply.Reply.{Reply}
use Rattle.journal.specs.Receipts.{ReceiptsState}
use Rattle.journal.specs.Settled.{IsSettled}
use Rattle.journal.specs.declared.journal.Record.{Record}
use Rattle.workers.proofs.Leaving.{left_alone}
use Rattle.workers.specs.Channel.{Reported}
use Rattle.workers.specs.Round.{AreLeft, AreServed}
use Rattle.workers.specs.declared.channel.Posted.{Posted}
use Rattle.workers.specs.declared.channel.NextAsk.{NextAsk}
use Rattle.daemon_process.specs.Rounds.{EndsByWorkers, EndsRound, EndsService}
use Rattle.daemon_process.specs.declared.exit.Exit.{Exit}
use Rattle.daemon_process.specs.declared.exit.Exit.TheVariants.{Faulty}
use Rattle.daemon_process.specs.declared.fault.DaemonFault.TheVariants.{Broken}

-- the channels of an Ok are those that were left
pub left_of_ok :
    {R E C : Type 0} (takes : C → NextAsk → C → Type 0) (posts : C → Reply → Posted → C → Type 0)
    (channels left : List C) (r : Result R E) (of : R → List C) →
    IfOk r (λ x. of x ≡ left) → AreLeft takes posts 64 channels left →
    IfOk r (λ x. AreLeft takes posts 64 channels (of x))
left_of_ok {R} {E} {C} takes posts channels left (Ok x) of same are =
    subst (λ (xs : List C). AreLeft takes posts 64 channels xs) (sym same) are
left_of_ok takes posts channels left (Err e) of same are = tt

-- channels that were given back are left as they were
pub left_of_same :
    {C : Type 0} (takes : C → NextAsk → C → Type 0) (posts : C → Reply → Posted → C → Type 0) (channels back : List C) →
    back ≡ channels → AreLeft takes posts 64 channels back
left_of_same {C} takes posts channels back same =
    subst (λ (xs : List C). AreLeft takes posts 64 channels xs) (sym same) (left_alone takes posts 64 channels)

-- a round that was served ends the daemon only if it is unsettled
pub unsettled_ends :
    {R C : Type 0} (takes : C → NextAsk → C → Type 0) (posts : C → Reply → Posted → C → Type 0)
    (tells : Bool) (told : C → Reported) (why : C → Option TakeFault) (channels left : List C) (records : List Record)
    (receipts : List ReceiptsState) (r : Result R Exit) →
    AreServed takes posts tells told 64 channels left receipts → OnErr r (IsSettled records receipts → ⊥) →
    IfErr r (λ exit. exit ≡ Faulty Broken) → IfErr r (EndsRound takes posts tells told why channels)
unsettled_ends takes posts tells told why channels left records receipts (Ok x) served unsettled is = tt
unsettled_ends takes posts tells told why channels left records receipts (Err exit) served unsettled is =
    inr (left, records, receipts, served, unsettled, is)

-- the workers' channels are those of their round, and the round ends the daemon
pub ends_by_workers :
    {C : Type 0} (takes : C → NextAsk → C → Type 0) (posts : C → Reply → Posted → C → Type 0)
    (tells : Bool) (told : C → Reported) (why : C → Option TakeFault) (channels served : Vec C) (after : List C)
    (exit : Exit) → served ≡ channels →
    EndsService takes posts tells told why (vec_len served) served.items exit →
    EndsByWorkers takes posts tells told why (vec_len channels) channels.items after (Some exit)
ends_by_workers {C} takes posts tells told why channels served after exit same ends =
    inr (
      exit,
      refl,
      subst (λ (these : Vec C). EndsService takes posts tells told why (vec_len these) these.items exit)
          same ends,
    )
