-- Every event leaves daemons and messages standing.
use Rattle.std.proofs.Common.{◌≡◌, ℕ, suc, zero, ◌+◌, ◌-◌, ◌<◌, ◌≤◌, Bool, true, false, List, [], ◌∷◌, ◌++◌, Option, Some, None, Err, refl, sym, ap, ◌∙◌, subst, inl, inr, ◌⊎◌, arith}
use Rattle.std.specs.Prelude.{◌==◌, slice_get, if◌then◌else◌}
use Rattle.std.specs.List.{AllByRecursion}
use Rattle.std.specs.Option.{option_map, option_map_or}
use Rattle.eden_base.specs.Limits.{last_generation}
use Rattle.eden_base.specs.declared.claim.ClaimFault.{ClaimFault}
use Rattle.eden_base.specs.declared.claim.ClaimFault.TheVariants as claim
use Rattle.eden_base.specs.declared.number.DaemonId.{DaemonId}
use Rattle.fuse_wire.specs.Request.{is_ask, item_of}
use Rattle.fuse_wire.specs.declared.item.Item.{Item}
use Rattle.fuse_wire.specs.declared.reply.Answer.{Answer}
use Rattle.fuse_wire.specs.declared.request.Ask.{Ask}
use Rattle.fuse_wire.specs.declared.request.Request.{Request}
use Rattle.broker_core.specs.Broker.{BrokerState, asked, forgot, mounted, ended, has_seat, claim_fault}
use Rattle.broker_core.specs.declared.seat.Seat.{Seat}
use Rattle.fuse_ops.specs.Served.{ServedState}
use Rattle.takeover_core.specs.Phases as table
use Rattle.takeover_core.specs.declared.message.Message.{Message}
use Rattle.takeover_core.specs.declared.message.Message.TheVariants.{Offer}
use Rattle.takeover_core.specs.declared.phase.Phase.{Phase}
use Rattle.takeover_core.specs.declared.phase.Phase.TheVariants.{Gone, Serving, Holding}
use Rattle.world.specs.World.{World}
use Rattle.world.specs.Agreement.{Follows}
use Rattle.daemon.specs.Daemon.{DaemonState, new_daemon, is_waiting, with_server}
use Rattle.world.specs.Handing.{part_at, is_drained, data_of, HasTheSeat, IsPast, DaemonStands, HandsOnce, IsHanding}
use Rattle.daemon.specs.Server.{ServerState, IsIdle, at_position, with_taken, with_worked, with_posted}
use Rattle.world.specs.State.{State, daemon_of, with_daemon, fault, take_refusal, server_refusal}
use Rattle.world.specs.Step.{Starts, Mounts, Issues, Takes, Works, Posts, Claims, Crashes, Makes, OnceBy, Once, after_refusal, unclaimed}
use Rattle.daemon.specs.Talking.{after_claim, at_generation}
use Rattle.world.specs.declared.event.Event.{Event}
use Rattle.world.specs.declared.event.Event.TheVariants.{Start, Mount, Issue, Take, Work, Post, Deliver, Hear, Drained, GiveUp, Claim, Crash}
use Rattle.daemon.specs.declared.happened.Happened.{Happened}
use Rattle.daemon.specs.declared.happened.Refusal.{Refusal}
use Rattle.world.proofs.Claims.{IsClaim, claim-is, refused-no-holder, claimed-phase, fatal-phase, waiting-phase, mounted-phase, crashed-phase}
use Rattle.world.proofs.Daemons.{MayMount, may_mount, serving-there, none-at}
use Rattle.world.proofs.Handing.{KeepsSeat, WasHolder, IsBase, IsLater, daemon-along, once-along, daemon-later, daemon-free, once-free, all-append, handing-where, handing-quiet, stays, holding-part}
use Rattle.world.proofs.Once.{data-quiet, says-no-more, past-data}
use Rattle.world.proofs.HandingTalks.{hears-handing, gives-up-handing, drains-handing}
use Rattle.world.proofs.Standing.{busy-stands, busy-out, seated-stands, gone-stands}

-- ---- no daemon changes

-- daemons and messages stand after a change of the kernel's side that keeps the seat
broker-handing : (old : State) (broker : BrokerState) → broker.seat ≡ old.broker.seat → broker.last ≡ old.broker.last → IsHanding old → IsHanding (record old { broker = broker })
broker-handing old broker seat last h = record {
  is_manifest = h.is_manifest;
  low = subst (λ (l : ℕ). l ≤ last_generation) (sym last) h.low;
  daemons = λ daemon was there. daemon-along old new daemon was k (h.daemons daemon was there);
  messages = subst (λ (l : ℕ). AllByRecursion (IsPast l) old.messages) (sym last) h.messages;
  once = once-along old new k (λ at e. refl) h.once;
} where
  new : State
  new = record old { broker = broker }

  k : KeepsSeat old new
  k = record {
    seat = seat;
    last = last;
    said = λ at was before has out. refl;
    holder = λ at now server has. record { was = now; before = server; has = record { seated = sym seat ∙ has.seated; there = has.there; serves = has.serves }; out = λ o. (o, refl) };
  }

issues-handing : (old : State) (request : Request) (told : Happened) (new : State) → IsHanding old → Issues old request told new → IsHanding new
issues-handing old request told new h (tells, makes) = subst IsHanding (sym makes) (in_ (is_ask request) (item_of request)) where
  in_ : (b : Bool) (o : Option Item) → IsHanding (record old { broker = if b then asked old.broker request else option_map_or (forgot old.broker) o old.broker })
  in_ true o = broker-handing old (asked old.broker request) refl refl h
  in_ false None = broker-handing old old.broker refl refl h
  in_ false (Some item) = broker-handing old (forgot old.broker item) refl refl h

-- ---- requests

same-base : (old : State) (broker : BrokerState) → IsBase old (record old { broker = broker }) []
same-base old broker = record { manifest = refl; daemons = refl; messages = sym (append-nil old.messages) } where
  append-nil : (ms : List Message) → ms ++ [] ≡ ms
  append-nil [] = refl
  append-nil (m ∷ ms) = ap (λ (xs : List Message). m ∷ xs) (append-nil ms)

busy-handing : (old : State) (broker : BrokerState) (daemon : DaemonId) (was : DaemonState) (before server : ServerState) (new : State) → IsHanding old → daemon_of old daemon ≡ Some was → was.server ≡ Some before → is_drained was.node.phase ≡ false →
    broker.seat ≡ old.broker.seat → broker.last ≡ old.broker.last → new ≡ with_daemon (record old { broker = broker }) daemon (with_server was server) → IsHanding new
busy-handing old broker daemon was before server new h there serves busy seat last makes =
    handing-quiet old (record old { broker = broker }) new daemon was (with_server was server) [] (same-base old broker) makes there h
    (stays old (record old { broker = broker }) new daemon was (with_server was server) [] (same-base old broker) makes there h seat last (says-no-more old [] tt) (λ at e here. busy-out was before server busy serves))
    (λ at e. data-quiet old [] tt at) (busy-stands old daemon was server busy (h.daemons daemon was there)) tt

-- a daemon that may take is not drained
may-busy : (p : Phase) → table.may_take p ≡ true → is_drained p ≡ false
may-busy (Serving g) e = refl
may-busy (Rattle.takeover_core.specs.declared.phase.Phase.TheVariants.Draining g s v) e = refl
may-busy p e = absurd (let none : ⊥ = cc in none)

takes-handing : (old : State) (daemon : DaemonId) (told : Happened) (new : State) → IsHanding old → fault old (Take daemon) ≡ None → Takes old daemon told new → IsHanding new
takes-handing old daemon told new h clear t =
    busy-handing old _ daemon t.was t.server (with_taken t.server t.ask) new h t.there t.serves (may-busy (t.was).node.phase (may_in (table.may_take (t.was).node.phase) refl refused)) refl refl t.makes where
      refused : server_refusal old daemon (table.may_take (t.was).node.phase) (t.was).server ≡ None
      refused = ap (take_refusal old daemon) (sym t.there) ∙ clear

      may_in : (b : Bool) → table.may_take (t.was).node.phase ≡ b → server_refusal old daemon b (t.was).server ≡ None → table.may_take (t.was).node.phase ≡ true
      may_in true e r = e
      may_in false e r = absurd (let none : ⊥ = cc in none)

-- a daemon that has something in hand or unposted is not drained
left-busy : {X : Type 0} (old : State) (daemon : DaemonId) (was : DaemonState) (server : ServerState) (of : ServerState → List X) (position : ℕ) (x : X) → IsHanding old → daemon_of old daemon ≡ Some was → was.server ≡ Some server → ((s : ServerState) → IsIdle s → of s ≡ []) → at_position (of server) position ≡ Some x →
    is_drained was.node.phase ≡ false
left-busy {X} old daemon was server of position x h there serves empty at = in_ (is_drained was.node.phase) refl where
  in_ : (b : Bool) → is_drained was.node.phase ≡ b → is_drained was.node.phase ≡ false
  in_ false e = e
  in_ true e = absurd (none-at position x (subst (λ (xs : List X). at_position xs position ≡ Some x) (empty server (((h.daemons daemon was there).drained) server serves e)) at))

pub worked-handing : (old : State) (daemon : DaemonId) (was : DaemonState) (server : ServerState) (position : ℕ) (task : Ask) (answer : Option Answer) (later : ServedState) (new : State) → IsHanding old → daemon_of old daemon ≡ Some was → was.server ≡ Some server → at_position server.hand position ≡ Some task →
    new ≡ with_daemon old daemon (with_server was (with_worked server position task answer later)) → IsHanding new
worked-handing old daemon was server position task answer later new h there serves at makes =
    busy-handing old old.broker daemon was server (with_worked server position task answer later) new h there serves
    (left-busy old daemon was server (λ (s : ServerState). s.hand) position task h there serves (λ s idle. idle.hand) at) refl refl makes

works-handing : (old : State) (daemon : DaemonId) (position : ℕ) (fails : Bool) (told : Happened) (new : State) → IsHanding old → Works old daemon position fails told new → IsHanding new
works-handing old daemon position fails told new h t = worked-handing old daemon t.was t.server position t.task t.answer t.later new h t.there t.serves t.at t.makes

posts-handing : (old : State) (daemon : DaemonId) (position : ℕ) (told : Happened) (new : State) → IsHanding old → Posts old daemon position told new → IsHanding new
posts-handing old daemon position told new h t =
    busy-handing old _ daemon t.was t.server (with_posted t.server position) new h t.there t.serves
    (left-busy old daemon t.was t.server (λ (s : ServerState). s.unposted) position t.reply h t.there t.serves (λ s idle. idle.unposted) t.at) refl refl t.makes

-- ---- a start

-- a daemon that is there after one started was there before, or is the new one
started-in : (vs : List ℕ) (ds : List DaemonState) (i : ℕ) (now : DaemonState) → slice_get (ds ++ new_daemon vs ∷ []) i ≡ Some now → (slice_get ds i ≡ Some now) ⊎ ((slice_get ds i ≡ None) × (now ≡ new_daemon vs))
started-in vs [] zero now e = inr (refl, (let same : new_daemon vs ≡ now = cc in sym same))
started-in vs [] (suc i) now e = absurd (let none : ⊥ = cc in none)
started-in vs (d ∷ ds) zero now e = inl e
started-in vs (d ∷ ds) (suc i) now e = started-in vs ds i now e

pub started-there : (old : State) (vs : List ℕ) (messages : List Message) (daemon : DaemonId) (now : DaemonState) → daemon_of (record old { daemons = old.daemons ++ new_daemon vs ∷ []; messages = messages }) daemon ≡ Some now →
    (daemon_of old daemon ≡ Some now) ⊎ ((daemon_of old daemon ≡ None) × (now ≡ new_daemon vs))
started-there old vs messages daemon now e = in_ (daemon.0 == 0) e where
  in_ : (b : Bool) → (if b then None else slice_get (old.daemons ++ new_daemon vs ∷ []) (daemon.0 - 1)) ≡ Some now →
      ((if b then None else slice_get old.daemons (daemon.0 - 1)) ≡ Some now) ⊎ (((if b then None else slice_get old.daemons (daemon.0 - 1)) ≡ None) × (now ≡ new_daemon vs))
  in_ true x = absurd (let none : ⊥ = cc in none)
  in_ false x = started-in vs old.daemons (daemon.0 - 1) now x

starts-handing : (w : World) (old : State) (vs : List ℕ) (told : Happened) (new : State) → Follows w old → IsHanding old → Starts old vs told new → IsHanding new
starts-handing w old vs told new m h (tells, makes) = subst IsHanding (sym makes) (record {
  is_manifest = h.is_manifest;
  low = h.low;
  daemons = λ daemon now there. daemon_in daemon now (started-there old vs (old.messages ++ Offer vs ∷ []) daemon now there);
  messages = all-append (IsPast old.broker.last) old.messages (Offer vs ∷ []) h.messages (tt, tt);
  once = once-along old later k (λ at e. data-quiet old (Offer vs ∷ []) (refl, tt) at) h.once;
}) where
  later : State
  later = record old { daemons = old.daemons ++ new_daemon vs ∷ []; messages = old.messages ++ Offer vs ∷ [] }

  holder_in : (at : Seat) (now : DaemonState) (server : ServerState) → HasTheSeat later at now server → (daemon_of old at.daemon ≡ Some now) ⊎ ((daemon_of old at.daemon ≡ None) × (now ≡ new_daemon vs)) → WasHolder old at now server
  holder_in at now server has (inl e) = record { was = now; before = server; has = record { seated = has.seated; there = e; serves = has.serves }; out = λ o. (o, refl) }
  holder_in at now server has (inr (nobody, is)) = absurd (let two : None ≡ Some server = sym (ap (λ (d : DaemonState). d.server) is) ∙ has.serves in let none : ⊥ = cc in none)

  k : KeepsSeat old later
  k = record {
    seat = refl;
    last = refl;
    holder = λ at now server has. holder_in at now server has (started-there old vs (old.messages ++ Offer vs ∷ []) at.daemon now has.there);
    said = says-no-more old (Offer vs ∷ []) (refl, tt);
  }

  -- the daemon of the seat is not one that is not there
  no_seat : (daemon : DaemonId) → daemon_of old daemon ≡ None → (seat : Seat) → old.broker.seat ≡ Some seat → daemon ≡ seat.daemon → ⊥
  no_seat daemon nobody seat e here =
      let serving = m.knows seat e in
      let there = serving-there old seat.daemon serving.0 (serving.1).serves in
      let two : None ≡ Some there.0 = sym nobody ∙ ap (daemon_of old) here ∙ there.1 in
      let none : ⊥ = cc in none

  daemon_in : (daemon : DaemonId) (now : DaemonState) → (daemon_of old daemon ≡ Some now) ⊎ ((daemon_of old daemon ≡ None) × (now ≡ new_daemon vs)) → DaemonStands later daemon now
  daemon_in daemon now (inl e) = daemon-along old later daemon now k (h.daemons daemon now e)
  daemon_in daemon now (inr (nobody, is)) = subst (λ (d : DaemonState). DaemonStands later daemon d) (sym is) (record {
    at_most = λ g e. absurd (let none : ⊥ = cc in none);
    serves = λ g e. absurd (let none : ⊥ = cc in none);
    drained = λ server serves d. absurd (let none : ⊥ = cc in none);
    only = λ seat e x. absurd (let none : ⊥ = cc in none);
    part = λ seat e x. absurd (no_seat daemon nobody seat e x);
    goes_on = λ seat e x in_s. absurd (let none : ⊥ = cc in none);
    held = λ seat holder handed server has claims serves. absurd (let none : ⊥ = cc in none);
    past = λ g e. absurd (let none : ⊥ = cc in none);
    reads = λ seat holder handed has e. absurd (let none : ⊥ = cc in none);
  })

-- ---- the seat is one generation later

later-handing : (old : State) (broker : BrokerState) (seat : Seat) (daemon : DaemonId) (was later : DaemonState) (server : ServerState) (new : State) → IsHanding old → later.server ≡ Some server → daemon_of old daemon ≡ Some was → later.node.phase ≡ Serving seat.generation → broker.seat ≡ Some seat → seat.daemon ≡ daemon →
    old.broker.last < seat.generation → broker.last ≡ seat.generation → seat.generation ≤ last_generation → new ≡ with_daemon (record old { broker = broker }) daemon later → IsHanding new
later-handing old broker seat daemon was later server new h has there serving seated here rises last low makes =
    handing-where old (record old { broker = broker }) new daemon was later [] (same-base old broker) makes there h
    (subst (λ (l : ℕ). l ≤ last_generation) (sym new_last) low) is_later.last
    (seated-stands new seat daemon later server has serving new_seat (sym here) (subst (λ (l : ℕ). seat.generation ≤ l) (sym new_last) (let r : seat.generation ≤ seat.generation = omega arith in r)))
    (λ other d apart s. daemon-later old new seat other d is_later (λ e. apart (e ∙ here)) s) tt once where
      new_seat : new.broker.seat ≡ Some seat
      new_seat = ap (λ (s : State). s.broker.seat) makes ∙ seated

      new_last : new.broker.last ≡ seat.generation
      new_last = ap (λ (s : State). s.broker.last) makes ∙ last

      once : HandsOnce new
      once at now other has_it =
          let two : Some seat ≡ Some at = sym new_seat ∙ has_it.seated in
          let same : seat ≡ at = cc in
          inl (ap (λ (s : Seat). data_of s.generation new.messages) (sym same) ∙ ap (λ (s : State). data_of seat.generation s.messages) makes ∙ past-data old.broker.last seat.generation old.messages rises h.messages)

      is_later : IsLater old new seat
      is_later = record { seated = new_seat; later = rises; last = (let l : new.broker.last ≡ seat.generation = new_last in omega arith) }

mounts-handing : (old : State) (daemon : DaemonId) (told : Happened) (new : State) → IsHanding old → fault old (Mount daemon) ≡ None → Mounts old daemon told new → IsHanding new
mounts-handing old daemon told new h clear t =
    later-handing old (mounted old.broker daemon) (record { generation = old.broker.last + 1; daemon = daemon }) daemon t.was t.later _ new h (ap (λ (d : DaemonState). d.server) t.does) t.there serving refl refl (omega arith) refl low t.makes where
      may : MayMount old (daemon_of old daemon)
      may = may_mount old (daemon_of old daemon) clear

      same : may.was ≡ t.was
      same = let two : Some may.was ≡ Some t.was = sym may.is ∙ t.there in cc

      serving : (t.later).node.phase ≡ Serving (old.broker.last + 1)
      serving = ap (λ (d : DaemonState). d.node.phase) t.does ∙ mounted-phase (t.was).node.versions (t.was).node.sessions (t.was).node.phase (old.broker.last + 1) (subst (λ (d : DaemonState). is_waiting d ≡ true) same may.waits)

      low : old.broker.last + 1 ≤ last_generation
      low = let l : old.broker.last < last_generation = may.below in omega arith

claims-handing : (w : World) (old : State) (daemon : DaemonId) (told : Happened) (new : State) → Follows w old → IsHanding old → fault old (Claim daemon) ≡ None → Claims old daemon told new → IsHanding new
claims-handing w old daemon told new m h clear t =
    later-handing old _ (record { generation = t.generation + 1; daemon = daemon }) daemon t.was t.later _ new h (ap (λ (d : DaemonState). d.server) t.does ∙ ap (option_map (at_generation (t.generation + 1))) own.1) t.there serving refl refl rises refl low t.makes where
      own : (server : ServerState) × ((t.was).server ≡ Some server)
      own = ((h.daemons daemon t.was t.there).serves) t.generation (holding-part (t.was).node.phase t.generation t.wants)

      c : IsClaim w old t.generation
      c = claim-is w old daemon t.was t.generation m t.there t.wants clear

      serving : (t.later).node.phase ≡ Serving (t.generation + 1)
      serving = ap (λ (d : DaemonState). d.node.phase) t.does ∙ claimed-phase (t.was).node.versions (t.was).node.sessions (t.was).node.phase t.generation (t.generation + 1) t.wants

      rises : old.broker.last < t.generation + 1
      rises = let l : old.broker.last ≡ t.generation = c.last in omega arith

      low : t.generation + 1 ≤ last_generation
      low = let l : t.generation < last_generation = c.below in omega arith

-- ---- a daemon is gone

-- daemons and messages stand after a daemon without the seat ended
gone-handing : (old : State) (daemon : DaemonId) (was later : DaemonState) (new : State) → IsHanding old → daemon_of old daemon ≡ Some was → later.node.phase ≡ Gone → ((seat : Seat) → old.broker.seat ≡ Some seat → daemon ≡ seat.daemon → ⊥) → new ≡ with_daemon old daemon later → IsHanding new
gone-handing old daemon was later new h there gone no_seat makes =
    handing-quiet old old new daemon was later [] (same-base old old.broker) makes there h
    (stays old old new daemon was later [] (same-base old old.broker) makes there h refl refl (says-no-more old [] tt) (λ at e here. absurd (no_seat at e here)))
    (λ at e. data-quiet old [] tt at) (gone-stands old daemon later gone no_seat) tt

-- daemons and messages stand after the daemon of the seat ended
ended-handing : (old : State) (daemon : DaemonId) (was later : DaemonState) (new : State) → IsHanding old → daemon_of old daemon ≡ Some was → later.node.phase ≡ Gone → new ≡ with_daemon (record old { broker = ended old.broker }) daemon later → IsHanding new
ended-handing old daemon was later new h there gone makes =
    handing-where old (record old { broker = ended old.broker }) new daemon was later [] (same-base old (ended old.broker)) makes there h
    (subst (λ (l : ℕ). l ≤ last_generation) (sym last) h.low) (let same : new.broker.last ≡ old.broker.last = last in omega arith) (gone-stands new daemon later gone (λ at e here. absurd (let two : None ≡ Some at = sym free ∙ e in let none : ⊥ = cc in none)))
    (λ other d apart s. daemon-free old new other d free last s) tt (once-free new free) where
      free : new.broker.seat ≡ None
      free = ap (λ (s : State). s.broker.seat) makes

      last : new.broker.last ≡ old.broker.last
      last = ap (λ (s : State). s.broker.last) makes

crashes-handing : (old : State) (daemon : DaemonId) (told : Happened) (new : State) → IsHanding old → Crashes old daemon told new → IsHanding new
crashes-handing old daemon told new h t = in_ (has_seat old.broker daemon) refl t.makes where
  gone : (t.later).node.phase ≡ Gone
  gone = ap (λ (d : DaemonState). d.node.phase) t.does ∙ crashed-phase (t.was).node.versions (t.was).node.sessions (t.was).node.phase

  no_seat : has_seat old.broker daemon ≡ false → (seat : Seat) → old.broker.seat ≡ Some seat → daemon ≡ seat.daemon → ⊥
  no_seat e seat at here =
      let its : (seat.daemon.0 == daemon.0) ≡ false = ap (λ (o : Option Seat). option_map_or (λ (s : Seat). s.daemon.0 == daemon.0) o false) (sym at) ∙ e in
      Rattle.eden_base.proofs.NumberTests.false-ne seat.daemon.0 daemon.0 its (ap (λ (d : DaemonId). d.0) (sym here))

  in_ : (b : Bool) → has_seat old.broker daemon ≡ b → new ≡ with_daemon (record old { broker = if b then ended old.broker else old.broker }) daemon t.later → IsHanding new
  in_ true e makes = ended-handing old daemon t.was t.later new h t.there gone makes
  in_ false e makes = gone-handing old daemon t.was t.later new h t.there gone (no_seat e) makes

-- ---- a claim that is refused

-- daemons and messages stand if a daemon stays as it was
still-handing : (old : State) (daemon : DaemonId) (was later : DaemonState) → IsHanding old → daemon_of old daemon ≡ Some was → later ≡ was → IsHanding (with_daemon old daemon later)
still-handing old daemon was later h there same =
    handing-quiet old old (with_daemon old daemon later) daemon was later [] (same-base old old.broker) refl there h
    (stays old old (with_daemon old daemon later) daemon was later [] (same-base old old.broker) refl there h refl refl (says-no-more old [] tt) (λ at e here. record { server = λ server serves. (server, sym (ap (λ (d : DaemonState). d.server) same) ∙ serves, λ o. (ap (λ (d : DaemonState). Rattle.world.specs.Handing.is_out d.node.phase) same ∙ o, refl)) }))
    (λ at e. data-quiet old [] tt at) (subst (λ (d : DaemonState). DaemonStands old daemon d) (sym same) (h.daemons daemon was there)) tt

unclaimed-handing : (w : World) (old : State) (daemon : DaemonId) (new : State) → Follows w old → IsHanding old → new ≡ after_refusal old (Claim daemon) → IsHanding new
unclaimed-handing w old daemon new m h makes = subst IsHanding (sym makes) (daemon_in (daemon_of old daemon) refl) where
  fault_in : (was : DaemonState) (g : ℕ) (f : Option ClaimFault) → daemon_of old daemon ≡ Some was → table.claim_wanted was.node.phase ≡ Some g → claim_fault old.broker g ≡ f →
      IsHanding (with_daemon old daemon (option_map_or (λ (x : ClaimFault). after_claim was (Err x)) f was))
  fault_in was g None there wants e = still-handing old daemon was was h there refl
  fault_in was g (Some (claim.Unanswered asks)) there wants e = still-handing old daemon was _ h there (waiting-phase was g asks wants)
  fault_in was g (Some claim.Ended) there wants e = gone-handing old daemon was _ _ h there (fatal-phase was.node.versions was.node.sessions was.node.phase g claim.Ended tt wants) (refused-no-holder old daemon was g claim.Ended tt h there wants e) refl
  fault_in was g (Some (claim.Stale now)) there wants e = gone-handing old daemon was _ _ h there (fatal-phase was.node.versions was.node.sessions was.node.phase g (claim.Stale now) tt wants) (refused-no-holder old daemon was g (claim.Stale now) tt h there wants e) refl
  fault_in was g (Some claim.LastGeneration) there wants e = gone-handing old daemon was _ _ h there (fatal-phase was.node.versions was.node.sessions was.node.phase g claim.LastGeneration tt wants) (refused-no-holder old daemon was g claim.LastGeneration tt h there wants e) refl

  wanted_in : (was : DaemonState) (o : Option ℕ) → daemon_of old daemon ≡ Some was → table.claim_wanted was.node.phase ≡ o → IsHanding (with_daemon old daemon (unclaimed old was o))
  wanted_in was None there wants = still-handing old daemon was was h there refl
  wanted_in was (Some g) there wants = fault_in was g (claim_fault old.broker g) there wants refl

  daemon_in : (o : Option DaemonState) → daemon_of old daemon ≡ o → IsHanding (option_map_or (λ (was : DaemonState). with_daemon old daemon (unclaimed old was (table.claim_wanted was.node.phase))) o old)
  daemon_in None e = h
  daemon_in (Some was) e = wanted_in was (table.claim_wanted was.node.phase) e refl

-- ---- any event

makes-handing : (w : World) (old : State) (event : Event) (told : Happened) (new : State) → Follows w old → IsHanding old → fault old event ≡ None → Makes old event told new → IsHanding new
makes-handing w old (Start versions) told new m h clear made = starts-handing w old versions told new m h made
makes-handing w old (Mount daemon) told new m h clear made = mounts-handing old daemon told new h clear made
makes-handing w old (Issue request) told new m h clear made = issues-handing old request told new h made
makes-handing w old (Take daemon) told new m h clear made = takes-handing old daemon told new h clear made
makes-handing w old (Work daemon position fails) told new m h clear made = works-handing old daemon position fails told new h made
makes-handing w old (Post daemon position) told new m h clear made = posts-handing old daemon position told new h made
makes-handing w old Deliver told new m h clear made = subst IsHanding (sym made.makes) (broker-handing old _ refl refl h)
makes-handing w old (Hear daemon position) told new m h clear made = hears-handing w old daemon position told new m h made
makes-handing w old (Drained daemon) told new m h clear made = drains-handing old daemon told new h made
makes-handing w old (GiveUp daemon) told new m h clear made = gives-up-handing old daemon told new h made
makes-handing w old (Claim daemon) told new m h clear made = claims-handing w old daemon told new m h clear made
makes-handing w old (Crash daemon) told new m h clear made = crashes-handing old daemon told new h made
makes-handing w old event told new m h clear made = absurd made

refuses-handing : (w : World) (old : State) (event : Event) (new : State) → Follows w old → IsHanding old → new ≡ after_refusal old event → IsHanding new
refuses-handing w old (Claim daemon) new m h same = unclaimed-handing w old daemon new m h same
refuses-handing w old event new m h same = subst IsHanding (sym same) h

-- Every event that is no `do`, made or refused, leaves daemons and messages standing.
pub once-handing : (w : World) (old : State) (event : Event) (told : Happened) (new : State) → Follows w old → IsHanding old → Once old event told new → IsHanding new
once-handing w old event told new m h once = in_ (fault old event) refl once where
  in_ : (f : Option Refusal) → fault old event ≡ f → OnceBy old event f told new → IsHanding new
  in_ (Some r) e s = refuses-handing w old event new m h s.1
  in_ None e (inl made) = makes-handing w old event told new m h e made
  in_ None e (inr lacks) = subst IsHanding (sym lacks.1.1) h
