-- If the state matches a world, each refusal of an event is one that may come.
use Rattle.std.proofs.Common.{◌≡◌, ℕ, ◌-◌, Bool, true, false, not, [], length, Option, Some, None, is_none, refl, sym, ap, ◌∙◌, subst, inl, inr}
use Rattle.std.specs.Prelude.{◌==◌, nat_lt, nat_le, if◌then◌else◌}
use Rattle.std.specs.Option.{option_map, option_and_then}
use Rattle.eden_base.specs.declared.claim.ClaimFault.TheVariants as claim
use Rattle.eden_base.specs.declared.number.DaemonId.{DaemonId}
use Rattle.eden_base.specs.Limits.{last_generation}
use Rattle.eden_base.proofs.NumberTests.{true-eq}
use Rattle.fuse_wire.specs.declared.reply.Reply.{Reply}
use Rattle.broker_core.specs.Broker.{issue_fault, claim_fault_by}
use Rattle.broker_core.specs.Traffic.{front, next_taken, is_asked}
use Rattle.broker_core.specs.declared.fault.PostFault.TheVariants as post
use Rattle.broker_core.specs.declared.fault.TakeFault.TheVariants as take
use Rattle.broker_core.specs.declared.seat.Seat.{Seat}
use Rattle.broker_core.proofs.SeatFaults.{seated-taken, seated-posted}
use Rattle.takeover_core.specs.Phases.{may_take, claim_wanted}
use Rattle.takeover_core.specs.declared.phase.Phase.{Phase}
use Rattle.takeover_core.specs.declared.phase.Phase.TheVariants.{Serving, Draining}
use Rattle.daemon.specs.Daemon.{DaemonState}
use Rattle.daemon.specs.Refusals.{refusal_of_take, refusal_of_post, refusal_of_claim}
use Rattle.daemon.specs.Server.{ServerState, at_position}
use Rattle.daemon.specs.declared.happened.Happened.{Happened}
use Rattle.daemon.specs.declared.happened.Refusal.{Refusal}
use Rattle.daemon.specs.declared.happened.Refusal.TheVariants as refusal
use Rattle.world.specs.Agreement.{Matches}
use Rattle.world.specs.Attending.{serving_at, may_come, MayBeTold}
use Rattle.world.specs.Handing.{part_at}
use Rattle.world.specs.State.{State, daemon_of, fault, most_daemons, server_refusal, take_refusal, reply_refusal, unposted_refusal, post_refusal, wanted_refusal, claim_refusal, IsSeated}
use Rattle.world.specs.Step.{OnceBy, Once}
use Rattle.world.specs.World.{World}
use Rattle.world.specs.declared.event.Event.{Event}
use Rattle.world.specs.declared.event.Event.TheVariants.{Start, Mount, Issue, Take, Work, Post, Deliver, Hear, Drained, GiveUp, Claim, Crash}
use Rattle.world.proofs.Awaiting.{awaited-none}
use Rattle.world.proofs.Claiming.{Handed, handed-over}
use Rattle.world.proofs.Daemons.{hand-seated, at-is}
use Rattle.world.proofs.Handing.{all-at}
use Rattle.world.proofs.Refusing.{comes, tested, mount-comes, issue-comes, work-comes, hear-comes, drained-comes, absence-comes, made-told}

-- ---- who takes or posts has the seat

-- a daemon that may take serves
taking-serves : (p : Phase) (g : ℕ) → may_take p ≡ true → part_at p ≡ Some g → serving_at p ≡ Some g
taking-serves (Serving h) g e part = part
taking-serves (Draining h s v) g e part = part
taking-serves p g e part = absurd (let none : ⊥ = cc in none)

module _ (w : World) (old : State) (m : Matches w old) where
  take-comes : (daemon : DaemonId) (o : Option DaemonState) (r : Refusal) → daemon_of old daemon ≡ o → take_refusal old daemon o ≡ Some r → may_come r (Take daemon) ≡ true
  take-comes daemon None r there e = comes (Take daemon) refusal.NoDaemon r refl e
  take-comes daemon (Some was) r there e = in_ (may_take was.node.phase) was.server refl refl e where
    by_take : (b : Bool) → option_map refusal_of_take (if b then Some take.Empty else None) ≡ Some r → may_come r (Take daemon) ≡ true
    by_take true e = comes (Take daemon) refusal.Empty r refl e
    by_take false e = absurd (let none : ⊥ = cc in none)

    in_ : (b : Bool) (s : Option ServerState) → may_take was.node.phase ≡ b → was.server ≡ s → server_refusal old daemon b s ≡ Some r → may_come r (Take daemon) ≡ true
    in_ true (Some server) may serves e =
        let stands = ((m.attended).daemons) daemon was there in
        let seated = stands.has_seat server.generation (taking-serves was.node.phase server.generation may (stands.at server serves)) in
        by_take (is_none (next_taken old.broker.traffic)) (ap (option_map refusal_of_take) (sym (seated-taken old.broker daemon server.generation seated)) ∙ e)
    in_ true None may serves e = comes (Take daemon) refusal.WrongPhase r refl e
    in_ false s may serves e = comes (Take daemon) refusal.WrongPhase r refl e

  -- a post is refused only as it may be
  reply-comes : (daemon : DaemonId) (position : ℕ) (was : DaemonState) (server : ServerState) (o : Option Reply) (r : Refusal) → daemon_of old daemon ≡ Some was → was.server ≡ Some server → at_position server.unposted position ≡ o → reply_refusal old daemon server o ≡ Some r → may_come r (Post daemon position) ≡ true
  reply-comes daemon position was server None r there serves at e = comes (Post daemon position) refusal.NoSuch r refl e
  reply-comes daemon position was server (Some reply) r there serves at e = absurd (let two : None ≡ Some r = sym none ∙ e in let x : ⊥ = cc in x) where
    h : (seat : Seat) × (seat.daemon ≡ daemon) × IsSeated old seat server
    h = hand-seated old daemon server (λ (s : ServerState). s.unposted) position reply (m.follows).others_idle (λ s idle. idle.unposted) (ap (option_and_then (λ (d : DaemonState). d.server)) there ∙ serves) at

    generation : (h.0).generation ≡ server.generation
    generation =
        let two : Some (h.0).generation ≡ Some server.generation = sym ((((m.handing).daemons) daemon was there).part h.0 (h.2).has_seat (sym h.1)) ∙ (((m.attended).daemons) daemon was there).at server serves in
        cc

    seated : old.broker.seat ≡ Some (record { generation = server.generation; daemon = daemon })
    seated = (h.2).has_seat ∙ (λ i. Some (record { generation = generation i; daemon = h.1 i }))

    its : is_asked old.broker.traffic reply ≡ true
    its = all-at (λ (x : Reply). is_asked old.broker.traffic x ≡ true) server.unposted (position - 1) reply (((m.attended).asked) h.0 server h.2).replies (at-is server.unposted position reply at)

    none : reply_refusal old daemon server (Some reply) ≡ None
    none = ap (option_map refusal_of_post) (seated-posted old.broker daemon server.generation reply seated)
        ∙ ap (λ (b : Bool). option_map refusal_of_post (if b then None else Some post.NotAsked)) its

  post-comes : (daemon : DaemonId) (position : ℕ) (o : Option DaemonState) (r : Refusal) → daemon_of old daemon ≡ o → post_refusal old daemon position o ≡ Some r → may_come r (Post daemon position) ≡ true
  post-comes daemon position None r there e = comes (Post daemon position) refusal.NoDaemon r refl e
  post-comes daemon position (Some was) r there e = in_ was.server refl e where
    in_ : (s : Option ServerState) → was.server ≡ s → unposted_refusal old daemon position s ≡ Some r → may_come r (Post daemon position) ≡ true
    in_ None serves e = comes (Post daemon position) refusal.NoSuch r refl e
    in_ (Some server) serves e = reply-comes daemon position was server (at_position server.unposted position) r there serves refl e

  -- ---- who claims from the seat's generation

  -- if a daemon may claim from the seat's generation, the broker waits for nothing
  answered-all : (daemon : DaemonId) (was : DaemonState) (g : ℕ) (seat : Seat) → daemon_of old daemon ≡ Some was → claim_wanted was.node.phase ≡ Some g → old.broker.seat ≡ Some seat → seat.generation ≡ g → old.broker.traffic.taken ≡ []
  answered-all daemon was g seat there wants seated same = awaited-none old.broker.traffic k.handed k.idle (((m.attended).asked) seat k.handed (record { has_seat = seated; serves = ap (option_and_then (λ (d : DaemonState). d.server)) (k.has).there ∙ (k.has).serves })) where
    k : Handed w old seat was
    k = handed-over w old daemon was seat m.follows m.handing there seated (wants ∙ ap Some (sym same))

  claim-comes : (daemon : DaemonId) (o : Option DaemonState) (r : Refusal) → daemon_of old daemon ≡ o → claim_refusal old o ≡ Some r → may_come r (Claim daemon) ≡ true
  claim-comes daemon None r there e = comes (Claim daemon) refusal.NoDaemon r refl e
  claim-comes daemon (Some was) r there e = wanted_in (claim_wanted was.node.phase) refl e where
    seat_in : (g : ℕ) (s : Option Seat) → claim_wanted was.node.phase ≡ Some g → old.broker.seat ≡ s → option_map refusal_of_claim (claim_fault_by s (length old.broker.traffic.taken) g) ≡ Some r → may_come r (Claim daemon) ≡ true
    seat_in g None wants seated e = comes (Claim daemon) refusal.Ended r refl e
    seat_in g (Some seat) wants seated e = test_in (seat.generation == g) (nat_lt 0 (length old.broker.traffic.taken)) (nat_le last_generation g) refl refl e where
      test_in : (a b c : Bool) → (seat.generation == g) ≡ a → nat_lt 0 (length old.broker.traffic.taken) ≡ b →
          option_map refusal_of_claim (if not a then Some (claim.Stale seat.generation) else if b then Some (claim.Unanswered (length old.broker.traffic.taken)) else if c then Some claim.LastGeneration else None) ≡ Some r → may_come r (Claim daemon) ≡ true
      test_in false b c x y e = comes (Claim daemon) (refusal.Stale seat.generation) r refl e
      test_in true true c x y e = absurd (
          let none : old.broker.traffic.taken ≡ [] = answered-all daemon was g seat there wants seated (true-eq seat.generation g x) in
          let two : true ≡ false = sym y ∙ ap (λ (n : ℕ). nat_lt 0 n) (ap length none) in
          let z : ⊥ = cc in z)
      test_in true false true x y e = comes (Claim daemon) refusal.LastGeneration r refl e
      test_in true false false x y e = absurd (let none : ⊥ = cc in none)

    wanted_in : (o : Option ℕ) → claim_wanted was.node.phase ≡ o → wanted_refusal old o ≡ Some r → may_come r (Claim daemon) ≡ true
    wanted_in None wants e = comes (Claim daemon) refusal.WrongPhase r refl e
    wanted_in (Some g) wants e = seat_in g old.broker.seat wants refl e

  -- ---- every event

  fault-comes : (event : Event) (r : Refusal) → fault old event ≡ Some r → may_come r event ≡ true
  fault-comes (Start versions) r e = tested (Start versions) refusal.Full r (nat_le most_daemons (length old.daemons)) refl e
  fault-comes (Mount daemon) r e = mount-comes (Mount daemon) old (daemon_of old daemon) r e
  fault-comes (Issue request) r e = issue-comes (Issue request) (issue_fault old.broker request) r e
  fault-comes (Take daemon) r e = take-comes daemon (daemon_of old daemon) r refl e
  fault-comes (Work daemon position fails) r e = work-comes (Work daemon position fails) position (daemon_of old daemon) r e
  fault-comes (Post daemon position) r e = post-comes daemon position (daemon_of old daemon) r refl e
  fault-comes Deliver r e = tested Deliver refusal.Empty r (is_none (front old.broker.traffic.posted)) refl e
  fault-comes (Hear daemon position) r e = hear-comes (Hear daemon position) old position (daemon_of old daemon) r e
  fault-comes (Drained daemon) r e = drained-comes (Drained daemon) (daemon_of old daemon) r e
  fault-comes (GiveUp daemon) r e = absence-comes (GiveUp daemon) (daemon_of old daemon) r e
  fault-comes (Claim daemon) r e = claim-comes daemon (daemon_of old daemon) r refl e
  fault-comes (Crash daemon) r e = absence-comes (Crash daemon) (daemon_of old daemon) r e
  fault-comes event r e = absurd (let none : ⊥ = cc in none)

  -- each refusal of an event is one that may come
  pub once-comes : (event : Event) (told : Happened) (new : State) → Once old event told new → MayBeTold event told
  once-comes event told new once = in_ (fault old event) refl once where
    in_ : (f : Option Refusal) → fault old event ≡ f → OnceBy old event f told new → MayBeTold event told
    in_ (Some r) e (is, same) = subst (MayBeTold event) (sym is) (fault-comes event r e)
    in_ None e (inl made) = made-told old event told new made
    in_ None e (inr lacks) = subst (MayBeTold event) (sym lacks.1.0) refl
