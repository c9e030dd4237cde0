-- After every event each daemon that serves has the seat, and the broker waits for what the daemon of the seat has to
-- answer.
use Rattle.std.proofs.Common.{◌≡◌, Option, Some, None, refl, sym, subst, inl, inr}
use Rattle.daemon.specs.declared.happened.Happened.{Happened}
use Rattle.daemon.specs.declared.happened.Refusal.{Refusal}
use Rattle.world.specs.Attending.{IsAttended}
use Rattle.world.specs.Agreement.{Follows}
use Rattle.world.specs.Handing.{IsHanding}
use Rattle.world.specs.State.{State, fault}
use Rattle.world.specs.Step.{Makes, OnceBy, Once, after_refusal}
use Rattle.world.specs.World.{World}
use Rattle.world.specs.declared.event.Event.{Event}
use Rattle.world.specs.declared.event.Event.TheVariants.{Start, Mount, Issue, Take, Work, Post, Deliver, Hear, Drained, GiveUp, Claim, Crash}
use Rattle.world.proofs.Attending.{broker-attended, issues-attended, starts-attended}
use Rattle.world.proofs.AttendingSeat.{mounts-attended, claims-attended, crashes-attended, unclaimed-attended}
use Rattle.world.proofs.AttendingTalks.{hears-attended, gives-up-attended, drains-attended}
use Rattle.world.proofs.AttendingWork.{takes-attended, works-attended, posts-attended}

makes-attended : (w : World) (old : State) (event : Event) (told : Happened) (new : State) → Follows w old → IsHanding old → IsAttended old → fault old event ≡ None → Makes old event told new → IsAttended new
makes-attended w old (Start versions) told new m h a clear made = starts-attended old versions told new a made
makes-attended w old (Mount daemon) told new m h a clear made = mounts-attended w old daemon told new m a clear made
makes-attended w old (Issue request) told new m h a clear made = issues-attended old request told new a made
makes-attended w old (Take daemon) told new m h a clear made = takes-attended w old daemon told new m a clear made
makes-attended w old (Work daemon position fails) told new m h a clear made = works-attended w old daemon position fails told new m a made
makes-attended w old (Post daemon position) told new m h a clear made = posts-attended w old daemon position told new m a made
makes-attended w old Deliver told new m h a clear made = subst IsAttended (sym made.makes) (broker-attended old _ refl refl a)
makes-attended w old (Hear daemon position) told new m h a clear made = hears-attended old daemon position told new h a made
makes-attended w old (Drained daemon) told new m h a clear made = drains-attended old daemon told new a made
makes-attended w old (GiveUp daemon) told new m h a clear made = gives-up-attended old daemon told new a made
makes-attended w old (Claim daemon) told new m h a clear made = claims-attended w old daemon told new m h a clear made
makes-attended w old (Crash daemon) told new m h a clear made = crashes-attended old daemon told new a made
makes-attended w old event told new m h a clear made = absurd made

refuses-attended : (old : State) (event : Event) → IsHanding old → IsAttended old → IsAttended (after_refusal old event)
refuses-attended old (Claim daemon) h a = unclaimed-attended old daemon h a
refuses-attended old event h a = a

-- After an event that is no `do`, made or refused, a state is attended that was attended.
pub once-attended : (w : World) (old : State) (event : Event) (told : Happened) (new : State) → Follows w old → IsHanding old → IsAttended old → Once old event told new → IsAttended new
once-attended w old event told new m h a once = in_ (fault old event) refl once where
  in_ : (f : Option Refusal) → fault old event ≡ f → OnceBy old event f told new → IsAttended new
  in_ (Some r) e s = subst IsAttended (sym s.1) (refuses-attended old event h a)
  in_ None e (inl made) = makes-attended w old event told new m h a e made
  in_ None e (inr lacks) = subst IsAttended (sym lacks.1.1) a
