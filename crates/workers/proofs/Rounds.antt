-- What a round gives, by how its workers ended.
use Rattle.std.proofs.Common.{◌≡◌, ◌+◌, ◌*◌, ◌≤◌, ℕ, List, length, Result, Ok, Err, sym, subst, ◌∙◌, arith}
use Rattle.std.specs.Global.{Vec}
use Rattle.std.specs.Prelude.{IfOk, IfErr, OnOk, OnErr}
use Rattle.std.specs.List.{All}
use Rattle.fuse_wire.specs.declared.reply.Reply.{Reply}
use Rattle.journal.specs.Journal.{JournalState}
use Rattle.journal.specs.Receipts.{ReceiptsState}
use Rattle.workers.specs.Faults.{IsBroken}
use Rattle.workers.specs.Buffers.{HasPlaces, HaveRoom, buffers_of}
use Rattle.workers.specs.Round.{OneBreaks}
use Rattle.workers.specs.declared.channel.Posted.{Posted}
use Rattle.workers.specs.declared.channel.NextAsk.{NextAsk}
use Rattle.workers.specs.declared.fault.RoundFault.{RoundFault}
use Rattle.workers.specs.declared.fault.RoundFault.TheVariants.{Broken}

-- what holds of two parts of an Ok
pub two_of_ok :
    {R E A K D : Type 0} (P : A → K → Type 0) (r : Result R E) (f : R → A) (g : R → K) (a : A) (k : K) →
    IfOk r (λ x. f x ≡ a) → IfOk r (λ x. g x ≡ k) → OnOk r D → (D → P a k) → IfOk r (λ x. P (f x) (g x))
two_of_ok {R} {E} {A} {K} P (Ok x) f g a k fa gk d go =
    subst (λ (b : A). P b (g x)) (sym fa) (subst (λ (h : K). P a h) (sym gk) (go d))
two_of_ok P (Err e) f g a k fa gk d go = tt

-- a round that broke gives back its channels as their workers left them
pub broken_by :
    {R B C D : Type 0} (takes : C → NextAsk → C → Type 0) (posts : C → Reply → Posted → C → Type 0) (turns : ℕ)
    (channels : List C) (left : Vec C) (r : Result R (RoundFault B C)) →
    OnErr r D → IfErr r (λ why. why ≡ Broken left) → (D → OneBreaks takes posts turns channels left.items) →
    IfErr r (IsBroken takes posts turns channels)
broken_by takes posts turns channels left (Ok x) cause is so = tt
broken_by {R} {B} {C} takes posts turns channels left (Err why) cause is so =
    subst (λ (fault : RoundFault B C). IsBroken takes posts turns channels fault) (sym is) (so cause)

-- a round that is served leaves the room that it began with
pub room_kept :
    {R E : Type 0} (r : Result R E) (journal : R → JournalState) (receipts : R → List ReceiptsState) (workers : R → ℕ)
    (parts channels turns count : ℕ) (kept : List ReceiptsState) →
    IfOk r (λ x. parts ≤ length (journal x).records + (journal x).room + 1) → IfOk r (λ x. receipts x ≡ kept) →
    IfOk r (λ x. workers x ≡ count) → parts ≡ channels * (turns + 1) → count ≡ channels →
    All (HasPlaces turns) kept →
    IfOk r (λ x. HaveRoom channels turns (buffers_of (journal x) (receipts x) (workers x)))
room_kept (Ok x) journal receipts workers parts channels turns count kept room same many parts_are count_is places =
    record {
      room = omega (arith, room, parts_are);
      workers = many ∙ count_is;
      places = subst (λ (ks : List ReceiptsState). All (HasPlaces turns) ks) (sym same) places;
    }
room_kept (Err e) journal receipts workers parts channels turns count kept room same many parts_are count_is places = tt
