-- A take moves nothing in the world. A reply that is posted is accepted there, and a reply that is delivered reaches
-- the kernel.
use Rattle.std.proofs.Common.{◌≡◌, ℕ, suc, ◌+◌, ◌-◌, ◌<◌, ◌≤◌, Bool, true, false, length, List, [], ◌∷◌, ◌++◌, Option, Some, None, is_some, refl, sym, ap, ◌∙◌, subst, arith}
use Rattle.std.specs.Prelude.{sum_by, count_by, slice_get, if◌then◌else◌}
use Rattle.std.specs.Option.{option_map, option_map_or, option_and_then}
use Rattle.std.specs.List.{AllByRecursion}
use Rattle.eden_base.specs.First.{first_where, without_where}
use Rattle.eden_base.specs.declared.number.DaemonId.{DaemonId}
use Rattle.fuse_wire.specs.Request.{is_ask, items_of}
use Rattle.fuse_wire.specs.declared.request.Ask.{Ask}
use Rattle.fuse_wire.specs.declared.reply.Reply.{Reply}
use Rattle.broker_core.specs.Broker.{take_fault, post_fault, taken, posted, delivered as broker_delivered}
use Rattle.broker_core.specs.Traffic.{TrafficState, front, left_by_take}
use Rattle.broker_core.specs.declared.fault.TakeFault.{TakeFault}
use Rattle.broker_core.specs.declared.fault.PostFault.{PostFault}
use Rattle.broker_core.specs.declared.seat.Seat.{Seat}
use Rattle.broker_core.proofs.SeatFaults.{taken-seated, posted-seated}
use Rattle.broker_core.proofs.TakeLaws.{IsAskTaken, take-is}
use Rattle.takeover_core.specs.Phases.{may_take}
use Rattle.daemon.specs.Daemon.{DaemonState, with_server}
use Rattle.daemon.specs.Server.{ServerState, told_taken, with_taken, with_posted}
use Rattle.world.specs.World.{World, Move, is_asked, is_replied, times, carries, held_after, owed, delivered, answered_by}
use Rattle.world.specs.Agreement.{IsGoodForget, IsAnswered, is_posted, asks_in, Books, Follows, move_of}
use Rattle.daemon.specs.Refusals.{refusal_of_take, refusal_of_post}
use Rattle.world.specs.State.{State, fault, take_refusal, server_refusal, post_refusal, unposted_refusal, reply_refusal, IsSeated}
use Rattle.world.specs.Step.{Takes, Posts, Delivers}
use Rattle.world.specs.declared.event.Event.TheVariants.{Take, Post, Deliver}
use Rattle.daemon.specs.declared.happened.Happened.{Happened}
use Rattle.daemon.specs.declared.happened.Happened.TheVariants as happened
use Rattle.world.proofs.Bags.{mark, sum-without}
use Rattle.world.proofs.Daemons.{HolderIs, holder-is, goes-on, broker-goes-on, only-holder, at-is}
use Rattle.world.proofs.Keeping.{books-queued, books-delivered, answered-still, answered-posted, seat-stays, times-held}
use Rattle.world.proofs.Knowing.{knows-along}
use Rattle.world.proofs.Moving.{MovesBy}
use Rattle.world.proofs.Orderly.{IsAsk, orderly-delivered}
use Rattle.world.proofs.UnderWay.{under-taken, under-posted, posted-under, IsReached, reached}

-- ---- take

-- a daemon that serves, and whose take no cause stands against, has the seat
pub take-seat : (old : State) (daemon : DaemonId) (was : DaemonState) (server : ServerState) → was.server ≡ Some server → take_refusal old daemon (Some was) ≡ None → old.broker.seat ≡ Some (record { generation = server.generation; daemon = daemon })
take-seat old daemon was server serves h = in_ (may_take was.node.phase) (subst (λ (o : Option ServerState). server_refusal old daemon (may_take was.node.phase) o ≡ None) serves h) where
  clear : (f : Option TakeFault) → option_map refusal_of_take f ≡ None → f ≡ None
  clear None e = refl
  clear (Some f) e = absurd (let none : ⊥ = cc in none)

  in_ : (b : Bool) → server_refusal old daemon b (Some server) ≡ None → old.broker.seat ≡ Some (record { generation = server.generation; daemon = daemon })
  in_ true e = taken-seated old.broker daemon server.generation (clear (take_fault old.broker daemon server.generation) e)
  in_ false e = absurd (let none : ⊥ = cc in none)

pub each-right : (P : Ask → Type 0) (xs ys : List Ask) → AllByRecursion P (xs ++ ys) → AllByRecursion P ys
each-right P [] ys every = every
each-right P (x ∷ xs) ys every = each-right P xs ys every.1

told-taken : (seat : Option Seat) (daemon : DaemonId) (ask : Ask) → (move_of seat (Take daemon) (told_taken ask) ≡ []) × IsGoodForget (told_taken ask) × (is_posted (told_taken ask) ≡ false)
told-taken seat daemon ask = in_ (is_ask ask.what) where
  Says : Happened → Type 0
  Says told = (move_of seat (Take daemon) told ≡ []) × IsGoodForget told × (is_posted told ≡ false)

  in_ : (b : Bool) → Says (if b then happened.Took ask.unique else happened.TookForgets (length (items_of ask.what)))
  in_ true = (refl, tt, refl)
  in_ false = (refl, tt, refl)

pub takes-moved : (w : World) (old : State) (daemon : DaemonId) (told : Happened) (new : State) → Follows w old → fault old (Take daemon) ≡ None → Takes old daemon told new → MovesBy w (move_of w.seat (Take daemon) told) old told new
takes-moved w old daemon told new m clear t = subst (λ (x : Happened). MovesBy w (move_of w.seat (Take daemon) x) old x new) (sym t.tells)
    (subst (λ (ms : List Move). MovesBy w ms old (told_taken t.ask) new) (sym says.0) (record {
      run = tt;
      matches = subst (λ (s : State). Follows w s) (sym t.makes)
          (goes-on w w old (taken old.broker) seat t.was (with_server t.was (with_taken t.server t.ask)) (with_taken t.server t.ask) m refl refl m.tree_is_tree m.of_manifest (books-queued w old.broker (left_by_take old.broker.traffic) m.books) m.seat_is_last m.orderly m.answered
          at.has_seat (only-holder old seat at.has_seat) t.there holder.knows
          (under-taken w old.broker.traffic t.server t.ask holder.under (take-is old.broker.traffic t.ask t.first) asks));
      forget = says.1;
      answered = λ e. absurd (let none : true ≡ false = sym e ∙ says.2 in let x : ⊥ = cc in x);
    })) where
      says : (move_of w.seat (Take daemon) (told_taken t.ask) ≡ []) × IsGoodForget (told_taken t.ask) × (is_posted (told_taken t.ask) ≡ false)
      says = told-taken w.seat daemon t.ask

      seat : Seat
      seat = record { generation = (t.server).generation; daemon = daemon }

      at : IsSeated old seat t.server
      at = record {
        has_seat = take-seat old daemon t.was t.server t.serves (subst (λ (o : Option DaemonState). take_refusal old daemon o ≡ None) t.there clear);
        serves = ap (option_and_then (λ (d : DaemonState). d.server)) t.there ∙ t.serves;
      }

      holder : HolderIs w old t.server
      holder = holder-is w old seat t.server m.knows at

      asks : IsAskTaken old.broker.traffic t.ask (left_by_take old.broker.traffic) → is_ask (t.ask).what ≡ true
      asks taken' = (each-right IsAsk (asks_in (t.server).hand) (t.ask ∷ (left_by_take old.broker.traffic).untaken)
          (subst (λ (all : List Ask). AllByRecursion IsAsk all) ((holder.under).asks ∙ ap (λ (us : List Ask). asks_in (t.server).hand ++ us) taken'.was) (m.orderly).asked)).0

-- ---- post

pub post-seat : (old : State) (daemon : DaemonId) (server : ServerState) (reply : Reply) → reply_refusal old daemon server (Some reply) ≡ None → old.broker.seat ≡ Some (record { generation = server.generation; daemon = daemon })
post-seat old daemon server reply h = posted-seated old.broker daemon server.generation reply (clear (post_fault old.broker daemon server.generation reply) h) where
  clear : (f : Option PostFault) → option_map refusal_of_post f ≡ None → f ≡ None
  clear None e = refl
  clear (Some f) e = absurd (let none : ⊥ = cc in none)

pub posts-moved : (w : World) (old : State) (daemon : DaemonId) (position : ℕ) (told : Happened) (new : State) → Follows w old → fault old (Post daemon position) ≡ None → Posts old daemon position told new →
    MovesBy w (move_of w.seat (Post daemon position) told) old told new
posts-moved w old daemon position told new m clear p = subst (λ (x : Happened). MovesBy w (move_of w.seat (Post daemon position) x) old x new) (sym p.tells) (record {
  run = ((ap is_some (posted-under w old.broker.traffic p.server position p.reply in_place holder.under).1, ((p.server).generation, here)), tt);
  matches = subst (λ (all : List Seat). Follows (record w { answered = all }) new) (sym by_seat)
      (subst (λ (s : State). Follows w' s) (sym p.makes)
      (goes-on w w' old (posted old.broker p.reply) seat p.was (with_server p.was (with_posted p.server position)) (with_posted p.server position) m refl refl m.tree_is_tree m.of_manifest books (seat-stays w w' seat m.seat_is_last here here refl)
      (record { asked = (m.orderly).asked; once = (m.orderly).once; used = (m.orderly).used; good = (m.orderly).good }) (answered-posted w seat m.answered m.seat_is_last here) at.has_seat (only-holder old seat at.has_seat) p.there
      holder.knows (under-posted w old.broker.traffic p.server position p.reply (seat ∷ w.answered) in_place holder.under)));
  forget = tt;
  answered = λ e. subst (λ (all : List Seat). IsAnswered (record w { answered = all }) old.broker.seat) (sym by_seat)
      (subst (λ (o : Option Seat). IsAnswered w' o) (sym at.has_seat) (0, (let low : 0 < suc (length w.answered) = omega arith in low), refl));
}) where
  seat : Seat
  seat = record { generation = (p.server).generation; daemon = daemon }

  w' : World
  w' = record w { answered = seat ∷ w.answered }

  at : IsSeated old seat p.server
  at = record {
    has_seat = post-seat old daemon p.server p.reply
        (subst (λ (o : Option Reply). reply_refusal old daemon p.server o ≡ None) p.at
        (subst (λ (o : Option ServerState). unposted_refusal old daemon position o ≡ None) p.serves
        (subst (λ (o : Option DaemonState). post_refusal old daemon position o ≡ None) p.there clear)));
    serves = ap (option_and_then (λ (d : DaemonState). d.server)) p.there ∙ p.serves;
  }

  here : w.seat ≡ Some seat
  here = (m.books).seat ∙ at.has_seat

  holder : HolderIs w old p.server
  holder = holder-is w old seat p.server m.knows at

  in_place : slice_get (p.server).unposted (position - 1) ≡ Some p.reply
  in_place = at-is (p.server).unposted position p.reply p.at

  by_seat : answered_by w daemon ≡ seat ∷ w.answered
  by_seat = ap (λ (o : Option Seat). option_map_or (λ (s : Seat). record { generation = s.generation; daemon = daemon } ∷ w.answered) o w.answered) here

  books : Books w' (posted old.broker p.reply)
  books = record { seat = (m.books).seat; last = (m.books).last; held = (m.books).held; uniques = (m.books).uniques }

-- ---- delivery

-- if a posted reply waits, a daemon has the seat
waits-seated : (w : World) (old : State) (reply : Reply) → Follows w old → front old.broker.traffic.posted ≡ Some reply → (seat : Seat) × (old.broker.seat ≡ Some seat)
waits-seated w old reply m first = in_ old.broker.seat refl where
  in_ : (o : Option Seat) → old.broker.seat ≡ o → (seat : Seat) × (o ≡ Some seat)
  in_ (Some seat) e = (seat, refl)
  in_ None e = absurd (let q = m.quiet e in let n : None ≡ Some reply = ap (λ (t : TrafficState). front t.posted) (sym q.1) ∙ first in let none : ⊥ = cc in none)

-- what is owed stays the same after a reply was delivered
delivered-owed : (w : World) (found : Reply) (n : ℕ) → first_where (is_replied found.unique) w.replies ≡ Some found →
    owed w n ≡ owed (record w { held = held_after w.held found.answer; replies = without_where (is_replied found.unique) w.replies }) n
delivered-owed w found n first =
    let t : times n (held_after w.held found.answer) ≡ times n w.held + mark (carries n found) = times-held n w.held found.answer in
    let s : count_by (carries n) w.replies ≡ mark (carries n found) + count_by (carries n) (without_where (is_replied found.unique) w.replies) = sum-without (λ (r : Reply). mark (carries n r)) (is_replied found.unique) w.replies found first in
    omega arith

pub delivers-moved : (w : World) (old : State) (told : Happened) (new : State) → Follows w old → Delivers old told new → MovesBy w (move_of w.seat Deliver told) old told new
delivers-moved w old told new m d = subst (λ (x : Happened). MovesBy w (move_of w.seat Deliver x) old x new) (sym d.tells) (record {
  run = (ap is_some r.first, tt);
  matches = subst (λ (o : Option Reply). Follows (delivered w o) new) (sym r.first)
      (subst (λ (s : State). Follows w' s) (sym d.makes)
      (broker-goes-on w w' old (broker_delivered old.broker) seat server m refl refl (books-delivered w old.broker d.reply r.found (without_where (is_replied (r.found).unique) w.replies) d.first r.measured m.books)
      (seat-stays w w' seat m.seat_is_last here here refl) (orderly-delivered w old.broker.next_unique (d.reply).unique r.found (held_after w.held (r.found).answer) r.first m.orderly) (answered-still w w' refl refl refl m.answered) refl at
      (knows-along w.tree w.names (owed w) (owed w') server.served (λ n. delivered-owed w r.found n its) holder.knows)
      (record {
        singles = (holder.under).singles;
        asks = (holder.under).asks;
        items = (holder.under).items;
        replies = λ f. ap (λ (u : ℕ). sum_by f (without_where (is_replied u) w.replies)) same ∙ r.left f;
      })));
  forget = tt;
  answered = λ e. absurd (let none : ⊥ = cc in none);
}) where
  has : (seat : Seat) × (old.broker.seat ≡ Some seat)
  has = waits-seated w old d.reply m d.first

  seat : Seat
  seat = has.0

  server : ServerState
  server = (m.knows seat has.1).0

  at : IsSeated old seat server
  at = (m.knows seat has.1).1

  here : w.seat ≡ Some seat
  here = (m.books).seat ∙ at.has_seat

  holder : HolderIs w old server
  holder = holder-is w old seat server m.knows at

  r : IsReached w old.broker.traffic server d.reply
  r = reached w old.broker.traffic server d.reply d.first
      (let o : count_by (is_asked (d.reply).unique) w.asks + count_by (is_replied (d.reply).unique) w.replies ≤ 1 = (m.orderly).once (d.reply).unique in omega arith) holder.under

  same : (r.found).unique ≡ (d.reply).unique
  same = r.measured (λ (x : Reply). x.unique)

  its : first_where (is_replied (r.found).unique) w.replies ≡ Some r.found
  its = ap (λ (u : ℕ). first_where (is_replied u) w.replies) same ∙ r.first

  w' : World
  w' = record w { held = held_after w.held (r.found).answer; replies = without_where (is_replied (r.found).unique) w.replies }
