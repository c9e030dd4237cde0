-- The call of a daemon that issues a request and takes is these two events.
use Rattle.std.proofs.Common.{◌≡◌, ◌≢◌, ℕ, Bool, true, false, List, [], ◌∷◌, length, Option, Some, None, set, refl, sym, ap, ◌∙◌, subst, inl, inr}
use Rattle.std.specs.Prelude.{slice_get}
use Rattle.std.specs.Option.{option_map}
use Rattle.eden_base.specs.declared.number.DaemonId.{DaemonId}
use Rattle.fuse_wire.specs.declared.request.Request.{Request}
use Rattle.broker_core.specs.Broker.{BrokerState, issue_fault, IsIssueRefusal, issued}
use Rattle.broker_core.specs.declared.broker.IssueFault.{IssueFault}
use Rattle.broker_core.specs.declared.broker.IssueFault.TheVariants as fault_is
use Rattle.daemon.specs.Daemon.{DaemonState}
use Rattle.daemon.specs.Serving.{IsIndex, HasNone, DaemonTakes}
use Rattle.daemon.specs.Beginning.{IsUnissued, IsIssued, DaemonBegins}
use Rattle.daemon.specs.Refusals.{refusal_of_issue, is_made, is_begun, told_begun}
use Rattle.daemon.specs.declared.happened.Begun.{Begun}
use Rattle.daemon.specs.declared.happened.Begun.TheVariants as begun
use Rattle.daemon.specs.declared.happened.Happened.{Happened}
use Rattle.daemon.specs.declared.happened.Happened.TheVariants.{Refused, Asked}
use Rattle.daemon.specs.declared.happened.Refusal.{Refusal}
use Rattle.daemon.specs.declared.happened.Refusal.TheVariants.{NoDaemon, NoMemory}
use Rattle.daemon.proofs.Positions.{set-there, at-none}
use Rattle.world.specs.State.{State, daemon_of, fault, take_refusal}
use Rattle.world.specs.Step.{OnceBy, Once}
use Rattle.world.specs.Beginning.{Begins}
use Rattle.world.specs.declared.event.Event.TheVariants.{Issue, Take}
use Rattle.world.proofs.Carrying.{begins-both, begins-untaken, begins-unissued}
use Rattle.world.proofs.StepLemmas.{Once-makes, Once-takes}

-- ---- the issue

-- an issue that is refused for this cause is the event `issue`
issue-refused : (old : State) (request : Request) (f : IssueFault) (told : Happened) → IsIssueRefusal old.broker request f → told ≡ Refused (refusal_of_issue f) →
    Once old (Issue request) told old
issue-refused old request f told is tells = by_fault f is tells where
  first : (g : IssueFault) → issue_fault old.broker request ≡ Some g → told ≡ Refused (refusal_of_issue g) → Once old (Issue request) told old
  first g e tells = subst (λ (o : Option IssueFault). OnceBy old (Issue request) (option_map refusal_of_issue o) told old) (sym e) (tells, refl)

  by_fault : (g : IssueFault) → IsIssueRefusal old.broker request g → told ≡ Refused (refusal_of_issue g) → Once old (Issue request) told old
  by_fault fault_is.NotMounted e tells = first fault_is.NotMounted e tells
  by_fault fault_is.NotHeld e tells = first fault_is.NotHeld e tells
  by_fault fault_is.BadForget e tells = first fault_is.BadForget e tells
  by_fault fault_is.Full e tells = first fault_is.Full e tells
  by_fault fault_is.NoMemory e tells = subst (λ (o : Option IssueFault). OnceBy old (Issue request) (option_map refusal_of_issue o) told old) (sym e) (inr (tt, (tells, refl)))

-- an issue leaves the daemons as they were
issue-daemons : (old : State) (request : Request) (told : Happened) (new : State) → Once old (Issue request) told new → new.daemons ≡ old.daemons
issue-daemons old request told new once = in_ (fault old (Issue request)) once where
  in_ : (f : Option Refusal) → OnceBy old (Issue request) f told new → new.daemons ≡ old.daemons
  in_ (Some r) s = ap (λ (x : State). x.daemons) s.1
  in_ None (inl made) = ap (λ (x : State). x.daemons) made.1
  in_ None (inr lacks) = ap (λ (x : State). x.daemons) lacks.1.1

-- ---- there is no such daemon

no-room : (r : Refusal) → (r ≡ NoDaemon) → Refused r ≢ Refused NoMemory
no-room r is e = (let other : Refused NoDaemon ≡ Refused NoMemory = ap Refused (sym is) ∙ e in let none : ⊥ = cc in none)

-- if there is no such daemon, the request is issued and the take is refused
pub begins-nowhere : (old : State) (request : Request) (daemon : DaemonId) (asked : Happened) (outcome : List Happened) (between : State) → HasNone (length old.daemons) daemon.0 →
    Once old (Issue request) asked between → true ≡ is_made asked → outcome ≡ asked ∷ Refused NoDaemon ∷ [] → Begins old request daemon false outcome between
begins-nowhere old request daemon asked outcome between none once made tells =
    begins-untaken old request daemon asked between (Refused NoDaemon) outcome between once made taken refl (no-room NoDaemon refl) tells where
      nobody : daemon_of between daemon ≡ None
      nobody = at-none between.daemons daemon.0 (subst (λ (ds : List DaemonState). HasNone (length ds) daemon.0) (sym (issue-daemons old request asked between once)) none)

      taken : Once between (Take daemon) (Refused NoDaemon) between
      taken = subst (λ (o : Option DaemonState). OnceBy between (Take daemon) (take_refusal between daemon o) (Refused NoDaemon) between) (sym nobody) (refl, refl)

-- ---- by what the daemon made of it

module _ (old : State) (request : Request) (daemon : DaemonId) (index : ℕ) (was later : DaemonState) (left : BrokerState) (at : IsIndex (length old.daemons) daemon.0 index) (there : slice_get old.daemons index ≡ Some was) where
  abbrev now : State
  now = record old { broker = left; daemons = set old.daemons index later }

  begins-refused : (refusal : Refusal) (outcome : List Happened) → IsUnissued old.broker request refusal left (later ≡ was) → outcome ≡ Refused refusal ∷ [] →
      Begins old request daemon false outcome now
  begins-refused refusal outcome h tells =
      subst (λ (s : State). Begins old request daemon false outcome s) (sym back)
      (begins-unissued old request daemon (Refused refusal) outcome old (issue-refused old request h.fault (Refused refusal) h.is (ap Refused h.tells)) refl tells) where
        daemons : set old.daemons index later ≡ old.daemons
        daemons = ap (λ (d : DaemonState). set old.daemons index d) h.same ∙ set-there old.daemons index was there

        back : now ≡ old
        back = ap (λ (b : BrokerState). record old { broker = b; daemons = set old.daemons index later }) h.same_broker ∙ ap (λ (ds : List DaemonState). record old { daemons = ds }) daemons

  begins-issued : (unique : Option ℕ) (taken : Happened) (outcome : List Happened) (made : Bool) →
      IsIssued old.broker request unique taken (DaemonTakes (issued old.broker request) daemon taken left was later) → made ≡ is_made taken → outcome ≡ Asked unique ∷ taken ∷ [] →
      Begins old request daemon made outcome now
  begins-issued unique taken outcome made h is tells = in_ made is where
    between : State
    between = record old { broker = issued old.broker request }

    asked : Once old (Issue request) (Asked unique) between
    asked = Once-makes old (Issue request) (Asked unique) between (ap (option_map refusal_of_issue) h.accepted) (ap Asked h.asks, refl)

    takes : Once between (Take daemon) taken now
    takes = Once-takes between daemon index taken left (set old.daemons index later) at (record { was = was; later = later; is_there = there; does_so = h.takes; makes = refl })

    in_ : (b : Bool) → b ≡ is_made taken → Begins old request daemon b outcome now
    in_ true e = begins-both old request daemon (Asked unique) between taken outcome now asked refl takes e h.has_room tells
    in_ false e = begins-untaken old request daemon (Asked unique) between taken outcome now asked refl takes e h.has_room tells

  pub begins-by : (result : Begun) (outcome : List Happened) (made : Bool) → DaemonBegins old.broker daemon request result left was later → outcome ≡ told_begun result → made ≡ is_begun result →
      Begins old request daemon made outcome now
  begins-by (begun.Refused refusal) outcome made h tells is = subst (λ (b : Bool). Begins old request daemon b outcome now) (sym is) (begins-refused refusal outcome h tells)
  begins-by (begun.Issued unique taken) outcome made h tells is = begins-issued unique taken outcome made h is tells
