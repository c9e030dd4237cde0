-- A claim moves the seat; one that is refused moves nothing.
use Rattle.std.proofs.Common.{◌≡◌, ℕ, ◌+◌, ◌-◌, ◌≤◌, true, List, [], ◌∷◌, ◌++◌, Option, Some, None, Err, refl, sym, ap, ◌∙◌, subst, inl, inr, ◌⊎◌, arith}
use Rattle.std.specs.Prelude.{sum_by}
use Rattle.std.specs.Option.{option_map, option_map_or, option_and_then}
use Rattle.eden_base.specs.declared.claim.ClaimFault.{ClaimFault}
use Rattle.eden_base.specs.declared.claim.ClaimFault.TheVariants as fault_of
use Rattle.eden_base.specs.declared.number.DaemonId.{DaemonId}
use Rattle.fuse_wire.specs.declared.request.Ask.{Ask}
use Rattle.broker_core.specs.Broker.{claim_fault, claimed}
use Rattle.broker_core.specs.declared.seat.Seat.{Seat}
use Rattle.fuse_ops.specs.Served.{plain}
use Rattle.takeover_core.specs.Phases as table
use Rattle.world.specs.World.{World, claim, owed, after}
use Rattle.world.specs.Agreement.{Knows, Follows, IsHolder, IsUnderWay, AnsweredBefore, asks_in, items_in, move_of}
use Rattle.daemon.specs.Daemon.{DaemonState}
use Rattle.world.specs.Handing.{is_out, HasTheSeat, IsHanding}
use Rattle.daemon.specs.Server.{ServerState, IsIdle}
use Rattle.world.specs.State.{State, fault, daemon_of, with_daemon, server_of, IsSeated}
use Rattle.world.specs.Step.{Claims, after_refusal, unclaimed}
use Rattle.daemon.specs.Talking.{after_claim, at_generation}
use Rattle.world.specs.declared.event.Event.TheVariants.{Claim}
use Rattle.daemon.specs.declared.happened.Happened.{Happened}
use Rattle.daemon.specs.declared.happened.Happened.TheVariants as happened
use Rattle.daemon.specs.declared.happened.Refusal.{Refusal}
use Rattle.world.proofs.Claims.{IsClaim, claim-is, refused-no-holder, waiting-phase}
use Rattle.world.proofs.Daemons.{server_of-with, server_of-other, serving-there, holder-or}
use Rattle.world.proofs.Handing.{out-drained, holding-out, holding-part}
use Rattle.world.proofs.Knowing.{knows-plain}
use Rattle.world.proofs.Moving.{MovesBy, unmoved}
use Rattle.world.proofs.Talks.{talks-follow}

-- ---- who had the seat

-- the daemon of the seat before a claim, and what the claiming daemon serves
pub record Handed (w : World) (old : State) (seat : Seat) (was : DaemonState) : Type 0 where
  pub holder : DaemonState
  pub handed : ServerState
  pub has : HasTheSeat old seat holder handed
  pub server : ServerState
  pub serves : was.server ≡ Some server
  pub idle : IsIdle handed
  pub own_idle : IsIdle server
  pub knows : Knows w.tree w.names (owed w) server.served
  pub under : IsUnderWay w old.broker.traffic handed

-- the daemon of the seat, what it serves, and that this knows the world
pub record HolderHas (w : World) (old : State) (seat : Seat) : Type 0 where
  pub was : DaemonState
  pub server : ServerState
  pub has : HasTheSeat old seat was server
  pub knows : Knows w.tree w.names (owed w) server.served
  pub under : IsUnderWay w old.broker.traffic server

pub holder-has : (w : World) (old : State) (seat : Seat) → Follows w old → old.broker.seat ≡ Some seat → HolderHas w old seat
holder-has w old seat m at = record {
  was = found.0;
  server = its.0;
  has = record { seated = at; there = found.1; serves = found.2 };
  knows = its.2;
  under = its.3;
} where
  its : (server : ServerState) × IsSeated old seat server × Knows w.tree w.names (owed w) server.served × IsUnderWay w old.broker.traffic server
  its = m.knows seat at

  found : (d : DaemonState) × (daemon_of old seat.daemon ≡ Some d) × (d.server ≡ Some its.0)
  found = serving-there old seat.daemon its.0 (its.1).serves

pub handed-over : (w : World) (old : State) (daemon : DaemonId) (was : DaemonState) (seat : Seat) → Follows w old → IsHanding old → daemon_of old daemon ≡ Some was → old.broker.seat ≡ Some seat → table.claim_wanted was.node.phase ≡ Some seat.generation → Handed w old seat was
handed-over w old daemon was seat m h there at wants = record {
  holder = its.was;
  handed = its.server;
  has = its.has;
  server = own.0;
  serves = own.1;
  idle = ((h.daemons seat.daemon its.was (its.has).there).drained) its.server (its.has).serves (out-drained (its.was).node.phase same.0);
  own_idle = ((h.daemons daemon was there).drained) own.0 own.1 (out-drained was.node.phase (holding-out was.node.phase seat.generation wants));
  knows = knows-plain w.tree w.names (owed w) (own.0).served (its.server).served same.1 its.knows;
  under = its.under;
} where
  its : HolderHas w old seat
  its = holder-has w old seat m at

  own : (server : ServerState) × (was.server ≡ Some server)
  own = ((h.daemons daemon was there).serves) seat.generation (holding-part was.node.phase seat.generation wants)

  same : (is_out (its.was).node.phase ≡ true) × (plain (own.0).served ≡ plain (its.server).served)
  same = ((h.daemons daemon was there).held) seat its.was its.server own.0 its.has wants own.1

-- ---- a claim

answered-claimed : (w : World) (old : State) (seat : Seat) (daemon : DaemonId) → Follows w old → old.broker.seat ≡ Some seat → AnsweredBefore (after w (claim seat.generation daemon))
answered-claimed w old seat daemon m at = record {
  one_daemon = (m.answered).one_daemon;
  at_most = λ other c. let low : other.generation ≤ w.last = (m.answered).at_most other c in let l : seat.generation ≡ w.last = last in omega arith;
  holder = λ now other e c same. absurd (
      let low : other.generation ≤ w.last = (m.answered).at_most other c in
      let l : seat.generation ≡ w.last = last in
      let two : Some (record { generation = seat.generation + 1; daemon = daemon }) ≡ Some now = e in
      let is : seat.generation + 1 ≡ now.generation = ap (λ (o : Option Seat). option_map_or (λ (s : Seat). s.generation) o 0) two in
      let s : other.generation ≡ now.generation = same in
      omega arith);
} where
  last : seat.generation ≡ w.last
  last = (m.seat_is_last).is_last seat ((m.books).seat ∙ at)

module _ (w : World) (old : State) (daemon : DaemonId) (was later : DaemonState) (seat : Seat) (m : Follows w old) (h : IsHanding old) (there : daemon_of old daemon ≡ Some was) (at : old.broker.seat ≡ Some seat) (k : Handed w old seat was) (serves : later.server ≡ Some (at_generation (seat.generation + 1) k.server)) where
  abbrev pub next : Seat
  next = record { generation = seat.generation + 1; daemon = daemon }

  abbrev pub base : State
  base = record old { broker = claimed old.broker daemon seat.generation }

  abbrev pub new : State
  new = with_daemon base daemon later

  abbrev pub w' : World
  w' = after w (claim seat.generation daemon)

  now_serves : server_of new daemon ≡ Some (at_generation (seat.generation + 1) k.server)
  now_serves = server_of-with base daemon was later there ∙ serves

  under : IsUnderWay w' old.broker.traffic (at_generation (seat.generation + 1) k.server)
  under = record {
    singles = subst (λ (hand : List Ask). Rattle.std.specs.List.AllByRecursion (λ (task : Ask). Rattle.daemon.specs.Server.is_single task ≡ true) hand) (sym own.hand) tt;
    asks = (k.under).asks ∙ ap (λ (hand : List Ask). asks_in hand ++ old.broker.traffic.untaken) ((k.idle).hand ∙ sym own.hand);
    items = λ f. (k.under).items f ∙ ap (λ (hand : List Ask). sum_by f (items_in hand ++ old.broker.traffic.items)) ((k.idle).hand ∙ sym own.hand);
    replies = λ f. (k.under).replies f ∙ ap (λ (rs : List Rattle.fuse_wire.specs.declared.reply.Reply.Reply). sum_by f (rs ++ old.broker.traffic.posted)) ((k.idle).unposted ∙ sym own.unposted);
  } where
    own : IsIdle k.server
    own = k.own_idle

  pub claimed-follows : Follows w' new
  claimed-follows = record {
    manifest = m.manifest;
    is_tree = m.is_tree;
    tree_is_tree = m.tree_is_tree;
    of_manifest = m.of_manifest;
    books = record { seat = refl; last = refl; held = (m.books).held; uniques = (m.books).uniques };
    seat_is_last = record { is_last = λ other e. let two : Some next ≡ Some other = e in ap (λ (o : Option Seat). option_map_or (λ (s : Seat). s.generation) o 0) (sym two); empty = λ e. absurd (let none : ⊥ = cc in none) };
    quiet = λ e. absurd (let none : ⊥ = cc in none);
    orderly = record { asked = (m.orderly).asked; once = (m.orderly).once; used = (m.orderly).used; good = (m.orderly).good };
    answered = answered-claimed w old seat daemon m at;
    knows = λ other e.
        let two : Some next ≡ Some other = e in
        let same : next ≡ other = cc in
        (at_generation (seat.generation + 1) k.server, subst (λ (s : Seat). IsSeated new s (at_generation (seat.generation + 1) k.server)) same (record { has_seat = refl; serves = now_serves }), k.knows, under);
    others_idle = λ other server its no_holder. idle_in other server its no_holder;
  } where
    idle_in : (other : DaemonId) (server : ServerState) → server_of new other ≡ Some server → (IsHolder new other → ⊥) → IsIdle server
    idle_in other server its no_holder = which (holder-or old other) where
      apart : daemon ≡ other → ⊥
      apart e = no_holder (next, refl, e)

      before : server_of old other ≡ Some server
      before = sym (server_of-other base daemon other was later there apart) ∙ its

      which : IsHolder old other ⊎ (IsHolder old other → ⊥) → IsIdle server
      which (inr apart) = m.others_idle other server before apart
      which (inl is) =
          let two : Some seat ≡ Some is.0 = sym at ∙ is.1 in
          let one : seat ≡ is.0 = cc in
          let here : seat.daemon ≡ other = ap (λ (s : Seat). s.daemon) one ∙ is.2 in
          let both : Some k.handed ≡ Some server = sym (ap (option_and_then (λ (d : DaemonState). d.server)) (k.has).there ∙ (k.has).serves) ∙ ap (server_of old) here ∙ before in
          let same : k.handed ≡ server = cc in
          subst IsIdle same k.idle

-- a claim that succeeds is a move, and the state matches the world after it
claim-moved : (w : World) (old : State) (daemon : DaemonId) (was later : DaemonState) (g : ℕ) (new : State) → Follows w old → IsHanding old → daemon_of old daemon ≡ Some was → table.claim_wanted was.node.phase ≡ Some g → IsClaim w old g → later.server ≡ option_map (at_generation (g + 1)) was.server →
    new ≡ with_daemon (record old { broker = claimed old.broker daemon g }) daemon later → MovesBy w (move_of w.seat (Claim daemon) (happened.Claimed (g + 1))) old (happened.Claimed (g + 1)) new
claim-moved w old daemon was later g new m h there wants c serves makes =
    subst (λ (n : ℕ). MovesBy w (claim n daemon ∷ []) old (happened.Claimed (g + 1)) new) from (record {
      run = (((c.seat).daemon, here), tt);
      matches = subst (λ (s : State). Follows (after w (claim (c.seat).generation daemon)) s) (sym (makes ∙ ap (λ (n : ℕ). with_daemon (record old { broker = claimed old.broker daemon n }) daemon later) (sym c.is)))
          (claimed-follows w old daemon was later c.seat m h there c.seated k at_next);
      forget = tt;
      answered = λ e. absurd (let none : ⊥ = cc in none);
    }) where
      -- the generation that was claimed is the seat's
      from : (c.seat).generation ≡ g + 1 - 1
      from = let same : (c.seat).generation ≡ g = c.is in omega arith

      here : w.seat ≡ Some c.seat
      here = (m.books).seat ∙ c.seated

      k : Handed w old c.seat was
      k = handed-over w old daemon was c.seat m h there c.seated (wants ∙ ap Some (sym c.is))

      at_next : later.server ≡ Some (at_generation ((c.seat).generation + 1) k.server)
      at_next = serves ∙ ap (option_map (at_generation (g + 1))) k.serves ∙ ap (λ (n : ℕ). Some (at_generation (n + 1) k.server)) (sym c.is)

pub claims-moved : (w : World) (old : State) (daemon : DaemonId) (told : Happened) (new : State) → Follows w old → IsHanding old → fault old (Claim daemon) ≡ None → Claims old daemon told new → MovesBy w (move_of w.seat (Claim daemon) told) old told new
claims-moved w old daemon told new m h clear t = subst (λ (x : Happened). MovesBy w (move_of w.seat (Claim daemon) x) old x new) (sym t.tells)
    (claim-moved w old daemon t.was t.later t.generation new m h t.there t.wants (claim-is w old daemon t.was t.generation m t.there t.wants clear) (ap (λ (d : DaemonState). d.server) t.does) t.makes)

-- ---- a claim that is refused

unclaimed-follows : (w : World) (old : State) (daemon : DaemonId) (new : State) → Follows w old → IsHanding old → new ≡ after_refusal old (Claim daemon) → Follows w new
unclaimed-follows w old daemon new m h makes = subst (Follows w) (sym makes) (daemon_in (daemon_of old daemon) refl) where
  gone : (was later : DaemonState) (g : ℕ) (f : ClaimFault) → Rattle.world.proofs.Claims.IsFatal f → daemon_of old daemon ≡ Some was → table.claim_wanted was.node.phase ≡ Some g → claim_fault old.broker g ≡ Some f → later.server ≡ None → Follows w (with_daemon old daemon later)
  gone was later g f fatal there wants e nothing = talks-follow w old old.messages daemon was later m there
      (inr (λ holder. refused-no-holder old daemon was g f fatal h there wants e holder.0 holder.1 (sym holder.2), λ server serves. absurd (let two : None ≡ Some server = sym nothing ∙ serves in let none : ⊥ = cc in none)))

  fault_in : (was : DaemonState) (g : ℕ) (f : Option ClaimFault) → daemon_of old daemon ≡ Some was → table.claim_wanted was.node.phase ≡ Some g → claim_fault old.broker g ≡ f →
      Follows w (with_daemon old daemon (option_map_or (λ (x : ClaimFault). after_claim was (Err x)) f was))
  fault_in was g None there wants e = talks-follow w old old.messages daemon was was m there (inl refl)
  fault_in was g (Some (fault_of.Unanswered asks)) there wants e = talks-follow w old old.messages daemon was _ m there (inl (ap (λ (d : DaemonState). d.server) (waiting-phase was g asks wants)))
  fault_in was g (Some fault_of.Ended) there wants e = gone was _ g fault_of.Ended tt there wants e refl
  fault_in was g (Some (fault_of.Stale now)) there wants e = gone was _ g (fault_of.Stale now) tt there wants e refl
  fault_in was g (Some fault_of.LastGeneration) there wants e = gone was _ g fault_of.LastGeneration tt there wants e refl

  wanted_in : (was : DaemonState) (o : Option ℕ) → daemon_of old daemon ≡ Some was → table.claim_wanted was.node.phase ≡ o → Follows w (with_daemon old daemon (unclaimed old was o))
  wanted_in was None there wants = talks-follow w old old.messages daemon was was m there (inl refl)
  wanted_in was (Some g) there wants = fault_in was g (claim_fault old.broker g) there wants refl

  daemon_in : (o : Option DaemonState) → daemon_of old daemon ≡ o → Follows w (option_map_or (λ (was : DaemonState). with_daemon old daemon (unclaimed old was (table.claim_wanted was.node.phase))) o old)
  daemon_in None e = m
  daemon_in (Some was) e = wanted_in was (table.claim_wanted was.node.phase) e refl

pub unclaimed-moved : (w : World) (old : State) (daemon : DaemonId) (r : Refusal) (told : Happened) (new : State) → Follows w old → IsHanding old → told ≡ happened.Refused r → new ≡ after_refusal old (Claim daemon) → MovesBy w (move_of w.seat (Claim daemon) told) old told new
unclaimed-moved w old daemon r told new m h is same = subst (λ (x : Happened). MovesBy w (move_of w.seat (Claim daemon) x) old x new) (sym is)
    (unmoved w old (happened.Refused r) new tt refl (unclaimed-follows w old daemon new m h same))
