-- After a mount, a claim and a crash each daemon that serves has the seat, and the broker waits for what the daemon of
-- the seat has to answer.
use Rattle.std.proofs.Common.{◌≡◌, ℕ, ◌+◌, Bool, true, false, [], Option, Some, None, Err, refl, sym, ap, ◌∙◌, subst}
use Rattle.std.specs.Prelude.{◌==◌, if◌then◌else◌}
use Rattle.std.specs.Option.{option_map, option_map_or, option_and_then}
use Rattle.eden_base.specs.declared.claim.ClaimFault.{ClaimFault}
use Rattle.eden_base.specs.declared.claim.ClaimFault.TheVariants as claim
use Rattle.eden_base.specs.declared.number.DaemonId.{DaemonId}
use Rattle.eden_base.proofs.NumberTests.{true-eq, false-ne}
use Rattle.broker_core.specs.Broker.{BrokerState, mounted, claimed, ended, has_seat, claim_fault}
use Rattle.broker_core.specs.Traffic.{TrafficState}
use Rattle.broker_core.specs.declared.seat.Seat.{Seat}
use Rattle.takeover_core.specs.Phases as table
use Rattle.takeover_core.specs.declared.phase.Phase.{Phase}
use Rattle.takeover_core.specs.declared.phase.Phase.TheVariants.{Serving, Gone, Handed, Holding}
use Rattle.daemon.specs.Daemon.{DaemonState, is_waiting}
use Rattle.daemon.specs.Server.{ServerState, new_server}
use Rattle.daemon.specs.Talking.{after_claim, at_generation}
use Rattle.daemon.specs.declared.happened.Happened.{Happened}
use Rattle.world.specs.Attending.{serving_at, ServesSeated, IsAwaited, IsAttended}
use Rattle.world.specs.Agreement.{Follows}
use Rattle.world.specs.Handing.{part_at, is_out, IsHanding}
use Rattle.world.specs.State.{State, daemon_of, with_daemon, IsSeated, fault}
use Rattle.world.specs.Step.{Mounts, Claims, Crashes, after_refusal, unclaimed}
use Rattle.world.specs.World.{World}
use Rattle.world.specs.declared.event.Event.TheVariants.{Mount, Claim}
use Rattle.world.proofs.Attending.{after_one, serves-along, attended-one, seated-back, gone-serves}
use Rattle.world.proofs.Awaiting.{awaited-none, idle-awaited}
use Rattle.world.proofs.Claiming.{Handed as Over, handed-over}
use Rattle.world.proofs.Claims.{IsClaim, claim-is, refused-no-holder, claimed-phase, fatal-phase, waiting-phase, mounted-phase, crashed-phase}
use Rattle.world.proofs.Daemons.{MayMount, may_mount, server_of-with, seated-same}

-- ---- a new seat

-- a state is attended if a daemon begins to serve with nothing to answer, and no other daemon serves
seated-attended : (old : State) (broker : BrokerState) (daemon : DaemonId) (was later : DaemonState) (server : ServerState) (g : ℕ) → daemon_of old daemon ≡ Some was → later.server ≡ Some server → later.node.phase ≡ Serving g → server.generation ≡ g → broker.seat ≡ Some (record { generation = g; daemon = daemon }) →
    ((other : DaemonId) (d : DaemonState) → (other ≡ daemon → ⊥) → daemon_of old other ≡ Some d → (x : ℕ) → serving_at d.node.phase ≡ Some x → ⊥) → IsAwaited broker.traffic server → IsAttended old → IsAttended (after_one old broker old.messages daemon later)
seated-attended old broker daemon was later server g there serves phase generation seated nobody awaited a =
    attended-one old broker old.messages daemon was later there
    (record {
      at = λ other e.
          let two : Some server ≡ Some other = sym serves ∙ e in
          let same : server ≡ other = cc in
          subst (λ (s : ServerState). part_at later.node.phase ≡ Some s.generation) same (ap part_at phase ∙ ap Some (sym generation));
      has_seat = λ x e.
          let two : Some g ≡ Some x = sym (ap serving_at phase) ∙ e in
          let same : g ≡ x = cc in
          subst (λ (n : ℕ). broker.seat ≡ Some (record { generation = n; daemon = daemon })) same seated;
    })
    (λ other d apart e. record { at = (a.daemons other d e).at; has_seat = λ x s. absurd (nobody other d apart e x s) })
    (λ other more at. subst (IsAwaited broker.traffic) (seated-same new seat other server more here at).1 awaited) where
      seat : Seat
      seat = record { generation = g; daemon = daemon }

      new : State
      new = after_one old broker old.messages daemon later

      here : IsSeated new seat server
      here = record { has_seat = seated; serves = server_of-with (record old { broker = broker }) daemon was later there ∙ serves }

pub mounts-attended : (w : World) (old : State) (daemon : DaemonId) (told : Happened) (new : State) → Follows w old → IsAttended old → fault old (Mount daemon) ≡ None → Mounts old daemon told new → IsAttended new
mounts-attended w old daemon told new m a clear t = subst IsAttended (sym t.makes)
    (seated-attended old (mounted old.broker daemon) daemon t.was t.later (new_server old.manifest old.limit (old.broker.last + 1)) (old.broker.last + 1) t.there (ap (λ (d : DaemonState). d.server) t.does) serving refl refl
    (λ other d apart e x s. let two : None ≡ Some (record { generation = x; daemon = other }) = sym may.free ∙ (a.daemons other d e).has_seat x s in let none : ⊥ = cc in none)
    (idle-awaited old.broker.traffic (new_server old.manifest old.limit (old.broker.last + 1)) (ap (λ (q : TrafficState). q.taken) (m.quiet may.free).1) (record { hand = refl; unposted = refl })) a) where
      may : MayMount old (daemon_of old daemon)
      may = may_mount old (daemon_of old daemon) clear

      same : may.was ≡ t.was
      same = let two : Some may.was ≡ Some t.was = sym may.is ∙ t.there in cc

      serving : (t.later).node.phase ≡ Serving (old.broker.last + 1)
      serving = ap (λ (d : DaemonState). d.node.phase) t.does ∙ mounted-phase (t.was).node.versions (t.was).node.sessions (t.was).node.phase (old.broker.last + 1) (subst (λ (d : DaemonState). is_waiting d ≡ true) same may.waits)

-- a daemon whose data is out does not serve
out-apart : (p : Phase) (g : ℕ) → is_out p ≡ true → serving_at p ≡ Some g → ⊥
out-apart (Handed h s) g e x = let none : ⊥ = cc in none
out-apart (Holding h) g e x = let none : ⊥ = cc in none
out-apart p g e x = let none : ⊥ = cc in none

pub claims-attended : (w : World) (old : State) (daemon : DaemonId) (told : Happened) (new : State) → Follows w old → IsHanding old → IsAttended old → fault old (Claim daemon) ≡ None → Claims old daemon told new → IsAttended new
claims-attended w old daemon told new m h a clear t = subst IsAttended (sym t.makes)
    (seated-attended old (claimed old.broker daemon t.generation) daemon t.was t.later (at_generation (t.generation + 1) k.server) (t.generation + 1) t.there (ap (λ (d : DaemonState). d.server) t.does ∙ ap (option_map (at_generation (t.generation + 1))) k.serves) serving refl refl nobody
    (idle-awaited old.broker.traffic (at_generation (t.generation + 1) k.server) none (record { hand = (k.own_idle).hand; unposted = (k.own_idle).unposted })) a) where
      c : IsClaim w old t.generation
      c = claim-is w old daemon t.was t.generation m t.there t.wants clear

      wants : table.claim_wanted (t.was).node.phase ≡ Some (c.seat).generation
      wants = t.wants ∙ ap Some (sym c.is)

      k : Over w old c.seat t.was
      k = handed-over w old daemon t.was c.seat m h t.there c.seated wants

      serving : (t.later).node.phase ≡ Serving (t.generation + 1)
      serving = ap (λ (d : DaemonState). d.node.phase) t.does ∙ claimed-phase (t.was).node.versions (t.was).node.sessions (t.was).node.phase t.generation (t.generation + 1) t.wants

      none : old.broker.traffic.taken ≡ []
      none = awaited-none old.broker.traffic k.handed k.idle (a.asked c.seat k.handed (record { has_seat = c.seated; serves = ap (option_and_then (λ (d : DaemonState). d.server)) (k.has).there ∙ (k.has).serves }))

      -- no other daemon serves: it would be the holder, whose data is out
      nobody : (other : DaemonId) (d : DaemonState) → (other ≡ daemon → ⊥) → daemon_of old other ≡ Some d → (x : ℕ) → serving_at d.node.phase ≡ Some x → ⊥
      nobody other d apart e x s =
          let two : Some c.seat ≡ Some (record { generation = x; daemon = other }) = sym c.seated ∙ (a.daemons other d e).has_seat x s in
          let one : c.seat ≡ record { generation = x; daemon = other } = cc in
          let both : Some d ≡ Some k.holder = sym e ∙ ap (λ (q : Seat). daemon_of old q.daemon) (sym one) ∙ (k.has).there in
          let same : d ≡ k.holder = cc in
          let out : is_out (k.holder).node.phase ≡ true = (((h.daemons daemon t.was t.there).held) c.seat k.holder k.handed k.server k.has wants k.serves).0 in
          out-apart d.node.phase x (ap (λ (q : DaemonState). is_out q.node.phase) same ∙ out) s

-- ---- a daemon is gone

gone-attended : (old : State) (daemon : DaemonId) (was later : DaemonState) → daemon_of old daemon ≡ Some was → later.server ≡ None → later.node.phase ≡ Gone → ((seat : Seat) → old.broker.seat ≡ Some seat → daemon ≡ seat.daemon → ⊥) → IsAttended old → IsAttended (with_daemon old daemon later)
gone-attended old daemon was later there nothing phase no_seat a =
    attended-one old old.broker old.messages daemon was later there (gone-serves _ daemon later nothing phase)
    (λ other d apart e. serves-along old _ other d refl (a.daemons other d e))
    (λ seat server at. a.asked seat server (seated-back old old.broker old.messages daemon was later there refl (λ s e here. absurd (no_seat s e here)) seat server at))

pub crashes-attended : (old : State) (daemon : DaemonId) (told : Happened) (new : State) → IsAttended old → Crashes old daemon told new → IsAttended new
crashes-attended old daemon told new a t = subst IsAttended (sym t.makes) (in_ (has_seat old.broker daemon) refl) where
  nothing : (t.later).server ≡ None
  nothing = ap (λ (d : DaemonState). d.server) t.does

  gone : (t.later).node.phase ≡ Gone
  gone = ap (λ (d : DaemonState). d.node.phase) t.does ∙ crashed-phase (t.was).node.versions (t.was).node.sessions (t.was).node.phase

  -- whether the daemon has the seat, if some daemon has
  has_in : (seat : Seat) (b : Bool) → has_seat old.broker daemon ≡ b → old.broker.seat ≡ Some seat → (seat.daemon.0 == daemon.0) ≡ b
  has_in seat b e at = ap (λ (o : Option Seat). option_map_or (λ (s : Seat). s.daemon.0 == daemon.0) o false) (sym at) ∙ e

  in_ : (b : Bool) → has_seat old.broker daemon ≡ b → IsAttended (with_daemon (record old { broker = if b then ended old.broker else old.broker }) daemon t.later)
  in_ true e =
      attended-one old (ended old.broker) old.messages daemon t.was t.later t.there (gone-serves _ daemon t.later nothing gone)
      (λ other d apart there. record {
        at = (a.daemons other d there).at;
        has_seat = λ g s. absurd (
            let same : other.0 ≡ daemon.0 = true-eq other.0 daemon.0 (has_in (record { generation = g; daemon = other }) true e ((a.daemons other d there).has_seat g s)) in
            apart (λ i. record { 0 = same i }));
      })
      (λ seat server at. absurd (let two : None ≡ Some seat = at.has_seat in let none : ⊥ = cc in none))
  in_ false e = gone-attended old daemon t.was t.later t.there nothing gone
      (λ seat at here. false-ne seat.daemon.0 daemon.0 (has_in seat false e at) (ap (λ (d : DaemonId). d.0) (sym here))) a

-- ---- a claim that is refused

still-attended : (old : State) (daemon : DaemonId) (was later : DaemonState) → daemon_of old daemon ≡ Some was → later ≡ was → IsAttended old → IsAttended (with_daemon old daemon later)
still-attended old daemon was later there same a =
    attended-one old old.broker old.messages daemon was later there
    (subst (λ (d : DaemonState). ServesSeated (with_daemon old daemon later) daemon d) (sym same) (serves-along old (with_daemon old daemon later) daemon was refl (a.daemons daemon was there)))
    (λ other d apart e. serves-along old (with_daemon old daemon later) other d refl (a.daemons other d e))
    (λ seat server at. a.asked seat server (seated-back old old.broker old.messages daemon was later there refl (λ s e here. ap (λ (d : DaemonState). d.server) same) seat server at))

pub unclaimed-attended : (old : State) (daemon : DaemonId) → IsHanding old → IsAttended old → IsAttended (after_refusal old (Claim daemon))
unclaimed-attended old daemon h a = daemon_in (daemon_of old daemon) refl where
  fault_in : (was : DaemonState) (g : ℕ) (f : Option ClaimFault) → daemon_of old daemon ≡ Some was → table.claim_wanted was.node.phase ≡ Some g → claim_fault old.broker g ≡ f →
      IsAttended (with_daemon old daemon (option_map_or (λ (x : ClaimFault). after_claim was (Err x)) f was))
  fault_in was g None there wants e = still-attended old daemon was was there refl a
  fault_in was g (Some (claim.Unanswered asks)) there wants e = still-attended old daemon was _ there (waiting-phase was g asks wants) a
  fault_in was g (Some claim.Ended) there wants e = gone-attended old daemon was _ there refl (fatal-phase was.node.versions was.node.sessions was.node.phase g claim.Ended tt wants) (refused-no-holder old daemon was g claim.Ended tt h there wants e) a
  fault_in was g (Some (claim.Stale now)) there wants e = gone-attended old daemon was _ there refl (fatal-phase was.node.versions was.node.sessions was.node.phase g (claim.Stale now) tt wants) (refused-no-holder old daemon was g (claim.Stale now) tt h there wants e) a
  fault_in was g (Some claim.LastGeneration) there wants e = gone-attended old daemon was _ there refl (fatal-phase was.node.versions was.node.sessions was.node.phase g claim.LastGeneration tt wants) (refused-no-holder old daemon was g claim.LastGeneration tt h there wants e) a

  wanted_in : (was : DaemonState) (o : Option ℕ) → daemon_of old daemon ≡ Some was → table.claim_wanted was.node.phase ≡ o → IsAttended (with_daemon old daemon (unclaimed old was o))
  wanted_in was None there wants = still-attended old daemon was was there refl a
  wanted_in was (Some g) there wants = fault_in was g (claim_fault old.broker g) there wants refl

  daemon_in : (o : Option DaemonState) → daemon_of old daemon ≡ o → IsAttended (option_map_or (λ (was : DaemonState). with_daemon old daemon (unclaimed old was (table.claim_wanted was.node.phase))) o old)
  daemon_in None e = a
  daemon_in (Some was) e = wanted_in was (table.claim_wanted was.node.phase) e refl
