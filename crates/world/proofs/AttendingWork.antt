-- After a daemon took, worked or posted, each daemon that serves has the seat, and the broker waits for what the daemon
-- of the seat has to answer.
use Rattle.std.proofs.Common.{◌≡◌, ℕ, ◌+◌, ◌-◌, ◌≤◌, Bool, true, false, List, [], ◌∷◌, ◌++◌, Option, Some, None, map, refl, sym, ap, ◌∙◌, subst, inl, inr, ◌⊎◌, arith}
use Rattle.std.specs.Prelude.{◌==◌, sum_by, count_by, if◌then◌else◌}
use Rattle.std.specs.List.{AllByRecursion}
use Rattle.std.specs.Option.{option_and_then}
use Rattle.std.proofs.lemmas.List.Sums.{sum_by-cons, sum_by-append}
use Rattle.eden_base.specs.declared.number.DaemonId.{DaemonId}
use Rattle.eden_base.proofs.NumberTests.{eq-true}
use Rattle.fuse_wire.specs.Request.{is_ask, items_of}
use Rattle.fuse_wire.specs.declared.request.Ask.{Ask}
use Rattle.fuse_wire.specs.declared.reply.Answer.{Answer}
use Rattle.broker_core.specs.Broker.{BrokerState, taken, posted}
use Rattle.broker_core.specs.Traffic.{TrafficState, left_by_take}
use Rattle.broker_core.specs.declared.seat.Seat.{Seat}
use Rattle.broker_core.proofs.TakeLaws.{IsAskTaken, AreItemsTaken, take-is}
use Rattle.fuse_ops.specs.Served.{ServedState, Replay}
use Rattle.daemon.specs.Daemon.{DaemonState, with_server}
use Rattle.daemon.specs.Server.{ServerState, at_position, single, handed, with_taken, with_worked, with_posted}
use Rattle.daemon.specs.declared.happened.Happened.{Happened}
use Rattle.world.specs.Attending.{of_ask, of_reply, of_taken, IsAwaited, IsAttended}
use Rattle.world.specs.Agreement.{asks_in, Follows}
use Rattle.world.specs.Handing.{part_at}
use Rattle.world.specs.State.{State, daemon_of, with_daemon, server_of, IsSeated, fault, take_refusal}
use Rattle.world.specs.Step.{Takes, Works, Posts}
use Rattle.world.specs.World.{World, is_asked, is_replied}
use Rattle.world.specs.declared.event.Event.TheVariants.{Take}
use Rattle.world.proofs.Accepting.{legal-taken}
use Rattle.world.proofs.Awaiting.{only, awaited-asked, awaited-items, awaited-worked, awaited-applied}
use Rattle.world.proofs.AwaitingPosts.{times_in, awaited-posted}
use Rattle.world.proofs.Bags.{mark, count-cons}
use Rattle.world.proofs.Daemons.{HolderIs, holder-is, server_of-with, seated-same, hand-seated, at-is}
use Rattle.world.proofs.Orderly.{IsAsk}
use Rattle.world.proofs.Taking.{take-seat, each-right}
use Rattle.world.proofs.Attending.{after_one, serves-along, attended-one}

-- a state stays attended if the daemon of the seat goes on at its generation
busy-attended : (old : State) (broker : BrokerState) (daemon : DaemonId) (was : DaemonState) (server now : ServerState) (seat : Seat) → IsAttended old → daemon_of old daemon ≡ Some was → was.server ≡ Some server → seat.daemon ≡ daemon → old.broker.seat ≡ Some seat →
    now.generation ≡ server.generation → broker.seat ≡ old.broker.seat → IsAwaited broker.traffic now → IsAttended (after_one old broker old.messages daemon (with_server was now))
busy-attended old broker daemon was server now seat a there serves here has_seat generation same awaited =
    attended-one old broker old.messages daemon was (with_server was now) there
    (record {
      at = λ other e.
          let two : Some now ≡ Some other = e in
          let same : now ≡ other = cc in
          subst (λ (s : ServerState). part_at was.node.phase ≡ Some s.generation) same ((a.daemons daemon was there).at server serves ∙ ap Some (sym generation));
      has_seat = λ g e. same ∙ (a.daemons daemon was there).has_seat g e;
    })
    (λ other d apart e. serves-along old new other d same (a.daemons other d e))
    (λ other more at. subst (IsAwaited broker.traffic) (seated-same new seat other now more new_at at).1 awaited) where
      new : State
      new = after_one old broker old.messages daemon (with_server was now)

      new_at : IsSeated new seat now
      new_at = record { has_seat = same ∙ has_seat; serves = ap (server_of new) here ∙ server_of-with (record old { broker = broker }) daemon was (with_server was now) there }

-- a measure of the uniques in hand is that of the asks in hand
hand-measured : (f : ℕ → ℕ) (hand : List Ask) → sum_by (of_ask f) hand ≡ sum_by (λ (task : Ask). f task.unique) (asks_in hand)
hand-measured f [] = refl
hand-measured f (task ∷ hand) = in_ (is_ask task.what) refl (hand-measured f hand) where
  in_ : (b : Bool) → is_ask task.what ≡ b → sum_by (of_ask f) hand ≡ sum_by (λ (x : Ask). f x.unique) (asks_in hand) → sum_by (of_ask f) (task ∷ hand) ≡ sum_by (λ (x : Ask). f x.unique) (if b then task ∷ asks_in hand else asks_in hand)
  in_ true e h =
      let c : sum_by (of_ask f) (task ∷ hand) ≡ of_ask f task + sum_by (of_ask f) hand = sum_by-cons (of_ask f) task hand in
      let o : of_ask f task ≡ f task.unique = rw e refl in
      let d : sum_by (λ (x : Ask). f x.unique) (task ∷ asks_in hand) ≡ f task.unique + sum_by (λ (x : Ask). f x.unique) (asks_in hand) = sum_by-cons (λ (x : Ask). f x.unique) task (asks_in hand) in
      omega arith
  in_ false e h =
      let c : sum_by (of_ask f) (task ∷ hand) ≡ of_ask f task + sum_by (of_ask f) hand = sum_by-cons (of_ask f) task hand in
      let o : of_ask f task ≡ 0 = rw e refl in
      omega arith

-- a unique is that of one ask or one reply, in hand, unposted or untaken
few-in : (w : World) (old : State) (server : ServerState) (unique : ℕ) → Follows w old → HolderIs w old server → times_in server unique + count_by (is_asked unique) old.broker.traffic.untaken ≤ 1
few-in w old server unique m holder =
    let once : count_by (is_asked unique) w.asks + count_by (is_replied unique) w.replies ≤ 1 = (m.orderly).once unique in
    let asks : count_by (is_asked unique) w.asks ≡ count_by (is_asked unique) (asks_in server.hand ++ old.broker.traffic.untaken) = ap (λ (all : List Ask). count_by (is_asked unique) all) (holder.under).asks in
    let parts : count_by (is_asked unique) (asks_in server.hand ++ old.broker.traffic.untaken) ≡ count_by (is_asked unique) (asks_in server.hand) + count_by (is_asked unique) old.broker.traffic.untaken =
    sum_by-append (λ (x : Ask). mark (is_asked unique x)) (asks_in server.hand) old.broker.traffic.untaken in
    let hand : sum_by (of_ask (only unique)) server.hand ≡ count_by (is_asked unique) (asks_in server.hand) = hand-measured (only unique) server.hand in
    let replies : count_by (is_replied unique) w.replies ≡ sum_by (of_reply (only unique)) (server.unposted ++ old.broker.traffic.posted) = (holder.under).replies (of_reply (only unique)) in
    let both : sum_by (of_reply (only unique)) (server.unposted ++ old.broker.traffic.posted) ≡ sum_by (of_reply (only unique)) server.unposted + sum_by (of_reply (only unique)) old.broker.traffic.posted = sum_by-append (of_reply (only unique)) server.unposted old.broker.traffic.posted in
    omega arith

-- what joins the hand by an ask is that ask alone
pub handed-one : (ask : Ask) → is_ask ask.what ≡ true → handed ask ≡ ask ∷ []
handed-one ask e = rw e refl

pub handed-each : (ask : Ask) → is_ask ask.what ≡ false → handed ask ≡ map single (items_of ask.what)
handed-each ask e = rw e refl

pub takes-attended : (w : World) (old : State) (daemon : DaemonId) (told : Happened) (new : State) → Follows w old → IsAttended old → fault old (Take daemon) ≡ None → Takes old daemon told new → IsAttended new
takes-attended w old daemon told new m a clear t = subst IsAttended (sym t.makes)
    (busy-attended old (taken old.broker) daemon t.was t.server (with_taken t.server t.ask) seat a t.there t.serves refl at.has_seat refl refl (in_ (take-is old.broker.traffic t.ask t.first) (is_ask (t.ask).what) refl)) where
      seat : Seat
      seat = record { generation = (t.server).generation; daemon = daemon }

      at : IsSeated old seat t.server
      at = record {
        has_seat = take-seat old daemon t.was t.server t.serves (subst (λ (o : Option DaemonState). take_refusal old daemon o ≡ None) t.there clear);
        serves = ap (option_and_then (λ (d : DaemonState). d.server)) t.there ∙ t.serves;
      }

      holder : HolderIs w old t.server
      holder = holder-is w old seat t.server m.knows at

      awaited : IsAwaited old.broker.traffic t.server
      awaited = a.asked seat t.server at

      left : TrafficState
      left = left_by_take old.broker.traffic

      -- the unique of the ask is that of no other taken ask
      fresh : IsAskTaken old.broker.traffic t.ask left → sum_by (of_taken (only (t.ask).unique)) old.broker.traffic.taken ≡ 0
      fresh is =
          let few : times_in t.server (t.ask).unique + count_by (is_asked (t.ask).unique) old.broker.traffic.untaken ≤ 1 = few-in w old t.server (t.ask).unique m holder in
          let was : count_by (is_asked (t.ask).unique) old.broker.traffic.untaken ≡ count_by (is_asked (t.ask).unique) (t.ask ∷ left.untaken) = ap (λ (us : List Ask). count_by (is_asked (t.ask).unique) us) is.was in
          let first : count_by (is_asked (t.ask).unique) (t.ask ∷ left.untaken) ≡ mark ((t.ask).unique == (t.ask).unique) + count_by (is_asked (t.ask).unique) left.untaken = count-cons (is_asked (t.ask).unique) t.ask left.untaken in
          let one : mark ((t.ask).unique == (t.ask).unique) ≡ 1 = ap mark (eq-true (t.ask).unique (t.ask).unique refl) in
          let all : sum_by (of_taken (only (t.ask).unique)) old.broker.traffic.taken ≡ times_in t.server (t.ask).unique = awaited.uniques (only (t.ask).unique) in
          omega arith

      -- the untaken request that was taken is an ask
      its : IsAskTaken old.broker.traffic t.ask left → is_ask (t.ask).what ≡ true
      its is = (each-right IsAsk (asks_in (t.server).hand) (t.ask ∷ left.untaken)
          (subst (λ (all : List Ask). AllByRecursion IsAsk all) ((holder.under).asks ∙ ap (λ (us : List Ask). asks_in (t.server).hand ++ us) is.was) (m.orderly).asked)).0

      in_ : IsAskTaken old.broker.traffic t.ask left ⊎ AreItemsTaken old.broker.traffic t.ask left → (b : Bool) → is_ask (t.ask).what ≡ b → IsAwaited left (with_taken t.server t.ask)
      in_ (inl is) true e = subst (λ (more : List Ask). IsAwaited left (record t.server { hand = (t.server).hand ++ more })) (sym (handed-one t.ask e)) (awaited-asked old.broker.traffic left t.server t.ask e is.taken (fresh is) awaited)
      in_ (inl is) false e = absurd (let two : true ≡ false = sym (its is) ∙ e in let none : ⊥ = cc in none)
      in_ (inr is) true e = absurd (let two : true ≡ false = sym e ∙ is.no_ask in let none : ⊥ = cc in none)
      in_ (inr is) false e = subst (λ (more : List Ask). IsAwaited left (record t.server { hand = (t.server).hand ++ more })) (sym (handed-each t.ask e)) (awaited-items old.broker.traffic left t.server (items_of (t.ask).what) is.taken awaited)

pub worked-attended : (w : World) (old : State) (daemon : DaemonId) (seat : Seat) (was : DaemonState) (server : ServerState) (position : ℕ) (task : Ask) (answer : Option Answer) (later : ServedState) → Follows w old → IsAttended old → daemon_of old daemon ≡ Some was → was.server ≡ Some server → seat.daemon ≡ daemon → IsSeated old seat server →
    at_position server.hand position ≡ Some task → Replay server.served task.what answer later → IsAttended (with_daemon old daemon (with_server was (with_worked server position task answer later)))
worked-attended w old daemon seat was server position task answer later m a there serves here seated at replay =
    busy-attended old old.broker daemon was server (with_worked server position task answer later) seat a there serves here seated.has_seat refl refl (by_answer answer replay) where
      awaited : IsAwaited old.broker.traffic server
      awaited = a.asked seat server seated

      by_answer : (o : Option Answer) → Replay server.served task.what o later → IsAwaited old.broker.traffic (with_worked server position task o later)
      by_answer (Some reply) (is, legal) =
          let k = (holder-is w old seat server m.knows seated).knows in
          let x = awaited-worked old.broker.traffic server (position - 1) task (record { unique = task.unique; answer = reply }) (at-is server.hand position task at) is refl
          (legal-taken server.served task.what reply k.sound later legal) awaited in
          record { uniques = x.uniques; forms = x.forms; replies = x.replies }
      by_answer None (is, same) =
          let x = awaited-applied old.broker.traffic server (position - 1) task (at-is server.hand position task at) is awaited in
          record { uniques = x.uniques; forms = x.forms; replies = x.replies }

pub works-attended : (w : World) (old : State) (daemon : DaemonId) (position : ℕ) (fails : Bool) (told : Happened) (new : State) → Follows w old → IsAttended old → Works old daemon position fails told new → IsAttended new
works-attended w old daemon position fails told new m a t = subst IsAttended (sym t.makes)
    (worked-attended w old daemon h.0 t.was t.server position t.task t.answer t.later m a t.there t.serves h.1 h.2 t.at t.replay) where
      h : (seat : Seat) × (seat.daemon ≡ daemon) × IsSeated old seat t.server
      h = hand-seated old daemon t.server (λ (s : ServerState). s.hand) position t.task m.others_idle (λ s idle. idle.hand) (ap (option_and_then (λ (d : DaemonState). d.server)) t.there ∙ t.serves) t.at

pub posts-attended : (w : World) (old : State) (daemon : DaemonId) (position : ℕ) (told : Happened) (new : State) → Follows w old → IsAttended old → Posts old daemon position told new → IsAttended new
posts-attended w old daemon position told new m a t = subst IsAttended (sym t.makes)
    (busy-attended old (posted old.broker t.reply) daemon t.was t.server (with_posted t.server position) h.0 a t.there t.serves h.1 (h.2).has_seat refl refl
    (awaited-posted old.broker.traffic t.server (position - 1) t.reply (at-is (t.server).unposted position t.reply t.at) few (a.asked h.0 t.server h.2))) where
      h : (seat : Seat) × (seat.daemon ≡ daemon) × IsSeated old seat t.server
      h = hand-seated old daemon t.server (λ (s : ServerState). s.unposted) position t.reply m.others_idle (λ s idle. idle.unposted) (ap (option_and_then (λ (d : DaemonState). d.server)) t.there ∙ t.serves) t.at

      few : times_in t.server (t.reply).unique ≤ 1
      few = let f : times_in t.server (t.reply).unique + count_by (is_asked (t.reply).unique) old.broker.traffic.untaken ≤ 1 = few-in w old t.server (t.reply).unique m (holder-is w old h.0 t.server m.knows h.2) in omega arith
