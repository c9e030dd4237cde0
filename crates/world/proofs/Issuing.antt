-- What the kernel issues is a move of the world.
use Rattle.std.proofs.Common.{◌≡◌, ℕ, ◌+◌, ◌-◌, ◌<◌, ◌≤◌, Bool, true, false, [], ◌∷◌, ◌++◌, Option, Some, None, is_some, refl, sym, ap, ◌∙◌, subst, arith}
use Rattle.std.specs.Prelude.{◌==◌, sum_by, count_by, if◌then◌else◌}
use Rattle.std.specs.Option.{option_map_or}
use Rattle.std.proofs.lemmas.List.Sums.{sum_by_push}
use Rattle.eden_base.proofs.NumberTests.{eq-false, true-eq}
use Rattle.fuse_wire.specs.Request.{is_ask, nodes, item_of}
use Rattle.fuse_wire.specs.declared.request.Ask.{Ask}
use Rattle.fuse_wire.specs.declared.request.Request.{Request}
use Rattle.fuse_wire.specs.declared.item.Item.{Item}
use Rattle.broker_core.specs.Broker.{issue_fault, asked, forgot, unique_of}
use Rattle.broker_core.specs.declared.seat.Seat.{Seat}
use Rattle.broker_core.proofs.Accepted.{accepted-ask, IsAcceptedItem, accepted-forget}
use Rattle.daemon.specs.Server.{ServerState}
use Rattle.world.specs.World.{World, issue, issue_item, times, without_times, taken_back, carries, owed}
use Rattle.world.specs.Agreement.{is_bad, Follows, move_of}
use Rattle.world.specs.State.{State, IsSeated}
use Rattle.world.specs.Step.{Issues}
use Rattle.world.specs.declared.event.Event.TheVariants.{Issue}
use Rattle.daemon.specs.declared.happened.Happened.{Happened}
use Rattle.daemon.specs.declared.happened.Happened.TheVariants as happened
use Rattle.world.proofs.Daemons.{HolderIs, holder-is, broker-goes-on}
use Rattle.world.proofs.Keeping.{books-asked, books-forgot, answered-still, seat-stays, may_go}
use Rattle.world.proofs.Knowing.{knows-along}
use Rattle.world.proofs.Moving.{MovesBy}
use Rattle.world.proofs.Orderly.{orderly-asked, orderly-forgot}
use Rattle.world.proofs.Times.{times-without}
use Rattle.world.proofs.UnderWay.{under-asked, under-forgot}

-- an ask that is issued is a move
asks-moved : (w : World) (old : State) (request : Request) (seat : Seat) (server : ServerState) → Follows w old → issue_fault old.broker request ≡ None → is_ask request ≡ true → IsSeated old seat server →
    MovesBy w (issue (record { unique = old.broker.next_unique; what = request }) ∷ []) old (happened.Asked (Some old.broker.next_unique)) (record old { broker = asked old.broker request })
asks-moved w old request seat server m clear is at = record {
  run = (
    record {
      seat = ap is_some here;
      is = is;
      fresh = λ c. let low : old.broker.next_unique < old.broker.next_unique = (m.books).uniques old.broker.next_unique c in omega arith;
      held = may_go w old.broker m.books (nodes request) (accepted-ask old.broker request clear is).0;
    },
    tt,
  );
  matches = broker-goes-on w w' old (asked old.broker request) seat server m refl refl (books-asked w old.broker request (w.asks ++ ask ∷ []) m.books) (seat-stays w w' seat m.seat_is_last here here refl)
      (orderly-asked w ask (w.asks ++ ask ∷ []) refl is m.orderly (old.broker.next_unique ∷ w.uniques)) (answered-still w w' refl refl refl m.answered) refl at holder.knows
      (under-asked w old.broker.traffic server old.broker.next_unique request holder.under);
  forget = tt;
  answered = λ e. absurd (let none : ⊥ = cc in none);
} where
  ask : Ask
  ask = record { unique = old.broker.next_unique; what = request }

  w' : World
  w' = record w { asks = w.asks ++ ask ∷ []; uniques = old.broker.next_unique ∷ w.uniques }

  here : w.seat ≡ Some seat
  here = (m.books).seat ∙ at.has_seat

  holder : HolderIs w old server
  holder = holder-is w old seat server m.knows at

-- an item that is not of the root, and takes something back, is good
good-item : (item : Item) → (item.node.0 ≡ 1 → ⊥) → 1 ≤ item.k → is_bad item ≡ false
good-item item root some =
    let a : (item.node.0 == 1) ≡ false = eq-false item.node.0 1 root in
    let b : (item.k == 0) ≡ false = eq-false item.k 0 (λ e. omega (arith, some, e)) in
    rw (a, b) refl

-- what the kernel holds less after a forget is still owed
forgot-owed : (w : World) (item : Item) (j : ℕ) → item.k ≤ times item.node.0 w.held → owed w j ≡ owed (record w { held = without_times item.k item.node.0 w.held; items = w.items ++ item ∷ [] }) j
forgot-owed w item j few = in_ (item.node.0 == j) refl where
  in_ : (b : Bool) → (item.node.0 == j) ≡ b →
      times j w.held + count_by (carries j) w.replies + sum_by (taken_back j) w.items ≡ times j (without_times item.k item.node.0 w.held) + count_by (carries j) w.replies + sum_by (taken_back j) (w.items ++ item ∷ [])
  in_ true e =
      let same : item.node.0 ≡ j = true-eq item.node.0 j e in
      let t : times j (without_times item.k item.node.0 w.held) ≡ times j w.held - item.k = times-without w.held item.node.0 item.k j ∙ ap (λ (b : Bool). if b then times j w.held - item.k else times j w.held) e in
      let l : item.k ≤ times j w.held = subst (λ (n : ℕ). item.k ≤ times n w.held) same few in
      let s : sum_by (taken_back j) (w.items ++ item ∷ []) ≡ sum_by (taken_back j) w.items + taken_back j item = sum_by_push (taken_back j) w.items item in
      let k : taken_back j item ≡ item.k = ap (λ (b : Bool). if b then item.k else 0) e in
      omega arith
  in_ false e =
      let t : times j (without_times item.k item.node.0 w.held) ≡ times j w.held = times-without w.held item.node.0 item.k j ∙ ap (λ (b : Bool). if b then times j w.held - item.k else times j w.held) e in
      let s : sum_by (taken_back j) (w.items ++ item ∷ []) ≡ sum_by (taken_back j) w.items + taken_back j item = sum_by_push (taken_back j) w.items item in
      let k : taken_back j item ≡ 0 = ap (λ (b : Bool). if b then item.k else 0) e in
      omega arith

-- a forget that is issued is a move
forgets-moved : (w : World) (old : State) (request : Request) (item : Item) (seat : Seat) (server : ServerState) → Follows w old → IsAcceptedItem old.broker request item → IsSeated old seat server →
    MovesBy w (issue_item item ∷ []) old (happened.Asked None) (record old { broker = forgot old.broker item })
forgets-moved w old request item seat server m accepted at = record {
  run = (record { seat = ap is_some here; no_root = accepted.not_root; some = accepted.some; at_most = at_most }, tt);
  matches = broker-goes-on w w' old (forgot old.broker item) seat server m refl refl (books-forgot w old.broker item (w.items ++ item ∷ []) m.books) (seat-stays w w' seat m.seat_is_last here here refl)
      (orderly-forgot w old.broker.next_unique item (without_times item.k item.node.0 w.held) (good-item item accepted.not_root accepted.some) m.orderly) (answered-still w w' refl refl refl m.answered) refl at
      (knows-along w.tree w.names (owed w) (owed w') server.served (λ j. forgot-owed w item j at_most) holder.knows)
      (under-forgot w old.broker.traffic server item (without_times item.k item.node.0 w.held) holder.under);
  forget = tt;
  answered = λ e. absurd (let none : ⊥ = cc in none);
} where
  w' : World
  w' = record w { held = without_times item.k item.node.0 w.held; items = w.items ++ item ∷ [] }

  here : w.seat ≡ Some seat
  here = (m.books).seat ∙ at.has_seat

  at_most : item.k ≤ times item.node.0 w.held
  at_most = subst (λ (n : ℕ). item.k ≤ n) (sym ((m.books).held item.node.0)) accepted.held

  holder : HolderIs w old server
  holder = holder-is w old seat server m.knows at

-- A request that the broker takes is a move.
pub issues-moved : (w : World) (old : State) (request : Request) (told : Happened) (new : State) (seat : Seat) (server : ServerState) → Follows w old → issue_fault old.broker request ≡ None → IsSeated old seat server → Issues old request told new →
    MovesBy w (move_of w.seat (Issue request) told) old told new
issues-moved w old request told new seat server m clear at (tells, makes) =
    subst (λ (x : Happened). MovesBy w (move_of w.seat (Issue request) x) old x new) (sym tells)
    (subst (λ (s : State). MovesBy w (move_of w.seat (Issue request) (happened.Asked (unique_of old.broker request))) old (happened.Asked (unique_of old.broker request)) s) (sym makes) (in_ (is_ask request) refl)) where
      Moved : Bool → Type 0
      Moved b = let unique : Option ℕ = if b then Some old.broker.next_unique else None in
          MovesBy w (move_of w.seat (Issue request) (happened.Asked unique)) old (happened.Asked unique) (record old { broker = if b then asked old.broker request else option_map_or (forgot old.broker) (item_of request) old.broker })

      in_ : (b : Bool) → is_ask request ≡ b → Moved b
      in_ true e = asks-moved w old request seat server m clear e at
      in_ false e =
          let a = accepted-forget old.broker request clear e in
          subst (λ (o : Option Item). MovesBy w (option_map_or (λ (item : Item). issue_item item ∷ []) o []) old (happened.Asked None) (record old { broker = option_map_or (forgot old.broker) o old.broker })) (sym (a.1).is)
          (forgets-moved w old request a.0 seat server m a.1 at)
