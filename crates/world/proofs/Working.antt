-- What a daemon works is a move of the world.
use Rattle.std.proofs.Common.{◌≡◌, ℕ, ◌+◌, ◌-◌, ◌≤◌, Bool, true, false, ◌||◌, List, [], ◌∷◌, ◌++◌, Option, Some, None, is_some, refl, sym, ap, ◌∙◌, subst, inl, inr, arith}
use Rattle.std.specs.Prelude.{◌==◌, sum_by, count_by, slice_get, if◌then◌else◌}
use Rattle.std.proofs.lemmas.List.{append-nil}
use Rattle.eden_base.specs.First.{first_where, without_where}
use Rattle.eden_base.specs.declared.number.DaemonId.{DaemonId}
use Rattle.eden_base.proofs.NumberTests.{eq-true, false-ne}
use Rattle.fuse_wire.specs.Request.{is_ask, item_of}
use Rattle.fuse_wire.proofs.ItemLaws.{items-one}
use Rattle.fuse_wire.specs.declared.request.Ask.{Ask}
use Rattle.fuse_wire.specs.declared.item.Item.{Item}
use Rattle.fuse_wire.specs.declared.reply.Answer.{Answer}
use Rattle.fuse_wire.specs.declared.reply.Reply.{Reply}
use Rattle.broker_core.specs.declared.seat.Seat.{Seat}
use Rattle.inode_map.specs.InodeMap.{forgot, forgotten}
use Rattle.inode_map.specs.declared.inode_map.Forgot.{Forgot}
use Rattle.fuse_ops.specs.Gifts.{IsTaken}
use Rattle.fuse_ops.specs.Served.{ServedState, forgotten_all, IsLegal, Replay}
use Rattle.fuse_ops.proofs.SameManifest.{answered-manifest}
use Rattle.std.specs.Option.{option_and_then}
use Rattle.daemon.specs.Daemon.{DaemonState, with_server}
use Rattle.daemon.specs.Server.{ServerState, is_single, told_worked, told_item, with_worked}
use Rattle.world.specs.World.{World, work, work_item, is_asked, is_replied, is_item, file_named, times, gives, carries, taken_back, owed, MayWork, worked}
use Rattle.world.specs.Agreement.{Knows, IsGoodForget, is_bad, Follows, move_of}
use Rattle.world.specs.State.{State, daemon_of, with_daemon, IsSeated}
use Rattle.world.specs.Step.{Works}
use Rattle.world.specs.declared.event.Event.TheVariants.{Work}
use Rattle.daemon.specs.declared.happened.Happened.{Happened}
use Rattle.daemon.specs.declared.happened.Happened.TheVariants as happened
use Rattle.world.proofs.Answering.{answers-worked}
use Rattle.world.proofs.Bags.{mark, count-push, sum-without}
use Rattle.world.proofs.Daemons.{HolderIs, holder-is, goes-on, only-holder, hand-seated, at-is}
use Rattle.world.proofs.Forgetting.{Forgotten, forgets-well, less_owed}
use Rattle.world.proofs.Hands.{at-single, single-item}
use Rattle.world.proofs.Keeping.{answered-still, seat-stays}
use Rattle.world.proofs.Knowing.{knows-along}
use Rattle.world.proofs.Moving.{MovesBy}
use Rattle.world.proofs.Orderly.{orderly-worked, orderly-applied, applied-good}
use Rattle.world.proofs.UnderWay.{IsAskAt, ask-at, replies-made, IsItemAt, item-at}
use Rattle.world.proofs.Worked.{Worked}

-- ---- an ask

-- what is owed after an ask was answered, whose reply is under way
pub made-owed : (w : World) (task : Ask) (answer : Answer) (n : ℕ) → owed w n + (if gives n answer then 1 else 0) ≡ owed (worked w answer (Some task)) n
made-owed w task answer n = in_ (gives n answer) refl where
  reply : Reply
  reply = record { unique = task.unique; answer = answer }

  in_ : (b : Bool) → gives n answer ≡ b → times n w.held + count_by (carries n) w.replies + sum_by (taken_back n) w.items + (if b then 1 else 0) ≡ times n w.held + count_by (carries n) (w.replies ++ reply ∷ []) + sum_by (taken_back n) w.items
  in_ true e =
      let p : count_by (carries n) (w.replies ++ reply ∷ []) ≡ count_by (carries n) w.replies + mark (gives n answer) = count-push (carries n) w.replies reply in
      let k : mark (gives n answer) ≡ 1 = ap mark e in
      omega arith
  in_ false e =
      let p : count_by (carries n) (w.replies ++ reply ∷ []) ≡ count_by (carries n) w.replies + mark (gives n answer) = count-push (carries n) w.replies reply in
      let k : mark (gives n answer) ≡ 0 = ap mark e in
      omega arith

pub answers-moved : (w : World) (old : State) (seat : Seat) (was : DaemonState) (server : ServerState) (position : ℕ) (task : Ask) (answer : Answer) (later : ServedState) → Follows w old → IsSeated old seat server → daemon_of old seat.daemon ≡ Some was → slice_get server.hand (position - 1) ≡ Some task → is_ask task.what ≡ true →
    IsLegal server.served task.what answer later →
    MovesBy w (work task.unique answer ∷ []) old (happened.Made (record { unique = task.unique; answer = answer })) (with_daemon old seat.daemon (with_server was (with_worked server position task (Some answer) later)))
answers-moved w old seat was server position task answer later m at here_is there is legal = record {
  run = (subst (λ (o : Option Ask). MayWork w o answer) (sym own.first) done.may, tt);
  matches = subst (λ (o : Option Ask). Follows (worked w answer o) new) (sym own.first)
      (goes-on w w' old old.broker seat was (with_server was (with_worked server position task (Some answer) later)) (with_worked server position task (Some answer) later) m refl refl done.is_tree (answered-manifest w.tree (file_named w.names) task.what answer ∙ m.of_manifest)
      (record { seat = (m.books).seat; last = (m.books).last; held = (m.books).held; uniques = (m.books).uniques }) (seat-stays w w' seat m.seat_is_last here here refl)
      (orderly-worked w w' old.broker.next_unique task reply own.first refl refl refl refl m.orderly) (answered-still w w' refl refl refl m.answered) at.has_seat (only-holder old seat at.has_seat)
      here_is (knows-along w'.tree w'.names (λ n. owed w n + (if gives n answer then 1 else 0)) (owed w') later (λ n. made-owed w task answer n) done.knows)
      (record {
        singles = (at-single (λ (x : Ask). is_single x ≡ true) server.hand (position - 1) task there (holder.under).singles).1;
        asks = own.left;
        items = own.items;
        replies = replies-made w old.broker.traffic server reply holder.under;
      }));
  forget = tt;
  answered = λ e. absurd (let none : ⊥ = cc in none);
} where
  new : State
  new = with_daemon old seat.daemon (with_server was (with_worked server position task (Some answer) later))

  reply : Reply
  reply = record { unique = task.unique; answer = answer }

  w' : World
  w' = worked w answer (Some task)

  here : w.seat ≡ Some seat
  here = (m.books).seat ∙ at.has_seat

  holder : HolderIs w old server
  holder = holder-is w old seat server m.knows at

  own : IsAskAt w old.broker.traffic server position task
  own = ask-at w old.broker.traffic server position task there is
      (let o : count_by (is_asked task.unique) w.asks + count_by (is_replied task.unique) w.replies ≤ 1 = (m.orderly).once task.unique in omega arith) holder.under

  done : Worked w task.what answer later
  done = answers-worked w server.served later task.what answer m.tree_is_tree m.of_manifest holder.knows legal

-- ---- an item

-- what is owed after an item was applied
pub applied-owed : (w : World) (item : Item) (j : ℕ) → first_where (is_item item) w.items ≡ Some item → less_owed (owed w) item.node.0 item.k j ≡ owed (record w { items = without_where (is_item item) w.items }) j
applied-owed w item j first = in_ (item.node.0 == j) refl where
  in_ : (b : Bool) → (item.node.0 == j) ≡ b → (if b then owed w j - item.k else owed w j) ≡ times j w.held + count_by (carries j) w.replies + sum_by (taken_back j) (without_where (is_item item) w.items)
  in_ true e =
      let s : sum_by (taken_back j) w.items ≡ taken_back j item + sum_by (taken_back j) (without_where (is_item item) w.items) = sum-without (taken_back j) (is_item item) w.items item first in
      let k : taken_back j item ≡ item.k = ap (λ (b : Bool). if b then item.k else 0) e in
      omega arith
  in_ false e =
      let s : sum_by (taken_back j) w.items ≡ taken_back j item + sum_by (taken_back j) (without_where (is_item item) w.items) = sum-without (taken_back j) (is_item item) w.items item first in
      let k : taken_back j item ≡ 0 = ap (λ (b : Bool). if b then item.k else 0) e in
      omega arith

-- a good item is not of the root, and takes something back
good-parts : (item : Item) → is_bad item ≡ false → (item.node.0 ≡ 1 → ⊥) × (1 ≤ item.k)
good-parts item good = in_ (item.node.0 == 1) (item.k == 0) refl refl good where
  in_ : (b c : Bool) → (item.node.0 == 1) ≡ b → (item.k == 0) ≡ c → (b || c) ≡ false → (item.node.0 ≡ 1 → ⊥) × (1 ≤ item.k)
  in_ true c e f h = absurd (let none : ⊥ = cc in none)
  in_ false true e f h = absurd (let none : ⊥ = cc in none)
  in_ false false e f h = (
    λ root. let t : (item.node.0 == 1) ≡ true = eq-true item.node.0 1 root in let x : true ≡ false = sym t ∙ e in let none : ⊥ = cc in none,
    (let low : item.k ≡ 0 → ⊥ = false-ne item.k 0 f in omega (arith, low)),
  )

pub items-moved : (w : World) (old : State) (seat : Seat) (was : DaemonState) (server : ServerState) (position : ℕ) (task : Ask) (item : Item) → Follows w old → IsSeated old seat server → daemon_of old seat.daemon ≡ Some was → slice_get server.hand (position - 1) ≡ Some task → is_ask task.what ≡ false → item_of task.what ≡ Some item →
    MovesBy w (work_item item ∷ []) old (happened.Forgot item (forgot server.served.map item.node.0 item.k))
    (with_daemon old seat.daemon (with_server was (with_worked server position task None (record server.served { map = forgotten server.served.map item.node.0 item.k }))))
items-moved w old seat was server position task item m at here_is there forget is = record {
  run = (ap is_some own.first, tt);
  matches = goes-on w w' old old.broker seat was (with_server was (with_worked server position task None later)) (with_worked server position task None later) m refl refl m.tree_is_tree m.of_manifest
      (record { seat = (m.books).seat; last = (m.books).last; held = (m.books).held; uniques = (m.books).uniques }) (seat-stays w w' seat m.seat_is_last here here refl) (orderly-applied w old.broker.next_unique item own.first m.orderly)
      (answered-still w w' refl refl refl m.answered) at.has_seat (only-holder old seat at.has_seat) here_is
      (subst (λ (s : ServedState). Knows w.tree w.names (owed w') s) (λ i. record { map = forgotten server.served.map item.node.0 item.k; tree = sym (holder.knows).tree_is i })
      (knows-along w.tree w.names (less_owed (owed w) item.node.0 item.k) (owed w') _ (λ j. applied-owed w item j own.first) well.knows))
      (record {
        singles = (at-single (λ (x : Ask). is_single x ≡ true) server.hand (position - 1) task there (holder.under).singles).1;
        asks = own.asks;
        items = own.left;
        replies = λ f. (holder.under).replies f ∙ ap (λ (rs : List Reply). sum_by f (rs ++ old.broker.traffic.posted)) (sym (append-nil server.unposted));
      });
  forget = good_in (forgot server.served.map item.node.0 item.k) well.taken;
  answered = λ e. absurd (let none : ⊥ = cc in none);
} where
  later : ServedState
  later = record server.served { map = forgotten server.served.map item.node.0 item.k }

  here : w.seat ≡ Some seat
  here = (m.books).seat ∙ at.has_seat

  holder : HolderIs w old server
  holder = holder-is w old seat server m.knows at

  own : IsItemAt w old.broker.traffic server position item
  own = item-at w old.broker.traffic server position task item there forget is holder.under

  w' : World
  w' = record w { items = without_where (is_item item) w.items }

  good : (item.node.0 ≡ 1 → ⊥) × (1 ≤ item.k)
  good = good-parts item (applied-good w old.broker.next_unique item own.first m.orderly)

  few : item.k ≤ owed w item.node.0
  few =
      let s : sum_by (taken_back item.node.0) w.items ≡ taken_back item.node.0 item + sum_by (taken_back item.node.0) (without_where (is_item item) w.items) = sum-without (taken_back item.node.0) (is_item item) w.items item own.first in
      let k : taken_back item.node.0 item ≡ item.k = ap (λ (b : Bool). if b then item.k else 0) (eq-true item.node.0 item.node.0 refl) in
      omega arith

  well : Forgotten w.tree w.names (owed w) server.served.map item.node.0 item.k
  well = forgets-well w.tree w.names (owed w) server.served.map item.node.0 item.k m.tree_is_tree
      (subst (λ (s : ServedState). Knows w.tree w.names (owed w) s) (λ i. record server.served { tree = (holder.knows).tree_is i }) holder.knows) good.0 good.1 few

  good_in : (f : Forgot) → IsTaken f → IsGoodForget (happened.Forgot item f)
  good_in f (inl e) = subst (λ (x : Forgot). IsGoodForget (happened.Forgot item x)) (sym e) tt
  good_in f (inr e) = subst (λ (x : Forgot). IsGoodForget (happened.Forgot item x)) (sym e) tt

-- ---- both

by_answer : (w : World) (old : State) (daemon : DaemonId) (position : ℕ) (fails : Bool) (seat : Seat) (was : DaemonState) (server : ServerState) (task : Ask) (answer : Option Answer) (later : ServedState) → Follows w old → IsSeated old seat server → daemon_of old seat.daemon ≡ Some was → slice_get server.hand (position - 1) ≡ Some task →
    Replay server.served task.what answer later →
    MovesBy w (move_of w.seat (Work daemon position fails) (told_worked server.served task answer)) old (told_worked server.served task answer) (with_daemon old seat.daemon (with_server was (with_worked server position task answer later)))
by_answer w old daemon position fails seat was server task (Some answer) later m at here_is there (is, legal) = answers-moved w old seat was server position task answer later m at here_is there is legal
by_answer w old daemon position fails seat was server task None later m at here_is there (forget, same) =
    let single = (at-single (λ (x : Ask). is_single x ≡ true) server.hand (position - 1) task there ((holder-is w old seat server m.knows at).under).singles).0 in
    let item = single-item task single forget in
    let is : later ≡ record server.served { map = forgotten server.served.map item.0.node.0 item.0.k } = same ∙ ap (λ (all : List Item). record server.served { map = forgotten_all server.served.map all }) (items-one task.what item.0 item.1) in
    subst (λ (o : Option Item). MovesBy w (move_of w.seat (Work daemon position fails) (told_item server.served o)) old (told_item server.served o) (with_daemon old seat.daemon (with_server was (with_worked server position task None later)))) (sym item.1)
    (subst (λ (s : ServedState). MovesBy w (work_item item.0 ∷ []) old (happened.Forgot item.0 (forgot server.served.map item.0.node.0 item.0.k)) (with_daemon old seat.daemon (with_server was (with_worked server position task None s)))) (sym is)
    (items-moved w old seat was server position task item.0 m at here_is there forget item.1))

-- An ask that is answered, or an item that is applied, is a move.
pub works-moved : (w : World) (old : State) (daemon : DaemonId) (position : ℕ) (fails : Bool) (told : Happened) (new : State) → Follows w old → Works old daemon position fails told new → MovesBy w (move_of w.seat (Work daemon position fails) told) old told new
works-moved w old daemon position fails told new m t =
    let h = hand-seated old daemon t.server (λ (s : ServerState). s.hand) position t.task m.others_idle (λ s idle. idle.hand) (ap (option_and_then (λ (d : DaemonState). d.server)) t.there ∙ t.serves) t.at in
    subst (λ (x : Happened). MovesBy w (move_of w.seat (Work daemon position fails) x) old x new) (sym t.tells)
    (subst (λ (s : State). MovesBy w (move_of w.seat (Work daemon position fails) (told_worked (t.server).served t.task t.answer)) old (told_worked (t.server).served t.task t.answer) s)
    (ap (λ (d : DaemonId). with_daemon old d (with_server t.was (with_worked t.server position t.task t.answer t.later))) h.1 ∙ sym t.makes)
    (by_answer w old daemon position fails h.0 t.was t.server t.task t.answer t.later m h.2 (ap (daemon_of old) h.1 ∙ t.there) (at-is (t.server).hand position t.task t.at) t.replay))
