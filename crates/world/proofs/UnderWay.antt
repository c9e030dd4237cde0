-- What is under way in the world is what the holder has in hand and what waits at the broker, and stays so over each
-- call of the broker and each request that is worked.
use Rattle.std.proofs.Common.{◌≡◌, ℕ, ◌+◌, ◌-◌, ◌<◌, ◌≤◌, Bool, true, false, ◌&&◌, List, [], ◌∷◌, ◌++◌, Some, drop, refl, sym, ap, ◌∙◌, inl, inr, ◌⊎◌, arith}
use Rattle.std.specs.Prelude.{◌==◌, sum_by, count_by, slice_get, remove}
use Rattle.std.proofs.lemmas.List.{append_assoc, append-nil}
use Rattle.std.proofs.lemmas.List.Sums.{sum_by-cons, sum_by-append, sum_by_push}
use Rattle.eden_base.proofs.NumberTests.{eq-true, true-eq}
use Rattle.eden_base.specs.First.{first_where, without_where}
use Rattle.fuse_wire.specs.Request.{is_ask, item_of, items_of}
use Rattle.fuse_wire.proofs.ItemLaws.{items-one, ask-items}
use Rattle.fuse_wire.specs.declared.request.Ask.{Ask}
use Rattle.fuse_wire.specs.declared.request.Request.{Request}
use Rattle.fuse_wire.specs.declared.item.Item.{Item}
use Rattle.fuse_wire.specs.declared.reply.Reply.{Reply}
use Rattle.broker_core.specs.Traffic.{TrafficState, front, ask_issued, item_issued, left_by_take, reply_posted, reply_delivered}
use Rattle.broker_core.specs.declared.seat.Seat.{Seat}
use Rattle.broker_core.proofs.TakeLaws.{IsAskTaken, AreItemsTaken}
use Rattle.daemon.specs.Server.{ServerState, is_single, handed, with_taken, with_posted}
use Rattle.world.specs.World.{World, is_asked, is_replied, is_item}
use Rattle.world.specs.Agreement.{IsSameBag, asks_in, items_in, IsUnderWay}
use Rattle.world.proofs.Bags.{mark, counted-first, first-passes, sum-without, same-measure, sum-at, first-append}
use Rattle.eden_base.proofs.FirstLemmas.{Each-append}
use Rattle.world.proofs.Hands.{handed-single, asks_in-append, items_in-append, handed-ask, handed-items, asks-worked, asks-forgot, items-worked}

-- ---- issue

-- what is under way after an ask was issued
pub under-asked : (w : World) (t : TrafficState) (server : ServerState) (unique : ℕ) (request : Request) → IsUnderWay w t server →
    IsUnderWay (record w { asks = w.asks ++ record { unique = unique; what = request } ∷ []; uniques = unique ∷ w.uniques }) (ask_issued t unique request) server
under-asked w t server unique request u = record {
  singles = u.singles;
  asks = ap (λ (all : List Ask). all ++ record { unique = unique; what = request } ∷ []) u.asks ∙ append_assoc (asks_in server.hand) t.untaken (record { unique = unique; what = request } ∷ []);
  items = u.items;
  replies = u.replies;
}

-- what is under way after an item was issued
pub under-forgot : (w : World) (t : TrafficState) (server : ServerState) (item : Item) (held : List ℕ) → IsUnderWay w t server → IsUnderWay (record w { held = held; items = w.items ++ item ∷ [] }) (item_issued t item) server
under-forgot w t server item held u = record {
  singles = u.singles;
  asks = u.asks;
  items = λ f.
      let a : sum_by f (w.items ++ item ∷ []) ≡ sum_by f w.items + f item = sum_by_push f w.items item in
      let b : sum_by f (items_in server.hand ++ (t.items ++ item ∷ [])) ≡ sum_by f (items_in server.hand) + sum_by f (t.items ++ item ∷ []) = sum_by-append f (items_in server.hand) (t.items ++ item ∷ []) in
      let c : sum_by f (t.items ++ item ∷ []) ≡ sum_by f t.items + f item = sum_by_push f t.items item in
      let d : sum_by f w.items ≡ sum_by f (items_in server.hand ++ t.items) = u.items f in
      let e : sum_by f (items_in server.hand ++ t.items) ≡ sum_by f (items_in server.hand) + sum_by f t.items = sum_by-append f (items_in server.hand) t.items in
      omega arith;
  replies = u.replies;
}

-- ---- take

-- what is under way after a take: what was taken went from the broker into the hand
pub under-taken : (w : World) (t : TrafficState) (server : ServerState) (ask : Ask) → IsUnderWay w t server → IsAskTaken t ask (left_by_take t) ⊎ AreItemsTaken t ask (left_by_take t) →
    (IsAskTaken t ask (left_by_take t) → is_ask ask.what ≡ true) → IsUnderWay w (left_by_take t) (with_taken server ask)
under-taken w t server ask u (inl taken) asks = record {
  singles = Each-append (λ (task : Ask). is_single task ≡ true) server.hand (handed ask) u.singles (handed-single ask);
  asks = u.asks ∙ ap (λ (us : List Ask). asks_in server.hand ++ us) taken.was
      ∙ sym (append_assoc (asks_in server.hand) (ask ∷ []) (left_by_take t).untaken)
      ∙ ap (λ (us : List Ask). asks_in server.hand ++ us ++ (left_by_take t).untaken) (sym h.0)
      ∙ ap (λ (us : List Ask). us ++ (left_by_take t).untaken) (sym (asks_in-append server.hand (handed ask)));
  items = λ f.
      let a : sum_by f (items_in (server.hand ++ handed ask)) ≡ sum_by f (items_in server.hand) + sum_by f (items_in (handed ask)) = items_in-append f server.hand (handed ask) in
      let z : sum_by f (items_in (handed ask)) ≡ 0 = ap (λ (is : List Item). sum_by f is) h.1 in
      let b : sum_by f (items_in (server.hand ++ handed ask) ++ (left_by_take t).items) ≡ sum_by f (items_in (server.hand ++ handed ask)) + sum_by f (left_by_take t).items = sum_by-append f (items_in (server.hand ++ handed ask)) (left_by_take t).items in
      let c : sum_by f (left_by_take t).items ≡ sum_by f t.items = ap (λ (is : List Item). sum_by f is) taken.items in
      let d : sum_by f w.items ≡ sum_by f (items_in server.hand ++ t.items) = u.items f in
      let e : sum_by f (items_in server.hand ++ t.items) ≡ sum_by f (items_in server.hand) + sum_by f t.items = sum_by-append f (items_in server.hand) t.items in
      omega arith;
  replies = λ f. u.replies f ∙ ap (λ (rs : List Reply). sum_by f (server.unposted ++ rs)) (sym taken.posted);
} where
  h : (asks_in (handed ask) ≡ ask ∷ []) × (items_in (handed ask) ≡ [])
  h = handed-ask ask (asks taken)
under-taken w t server ask u (inr taken) asks = record {
  singles = Each-append (λ (task : Ask). is_single task ≡ true) server.hand (handed ask) u.singles (handed-single ask);
  asks = u.asks ∙ ap (λ (us : List Ask). asks_in server.hand ++ us) (sym taken.untaken) ∙ ap (λ (us : List Ask). us ++ (left_by_take t).untaken) (sym same);
  items = λ f.
      let a : sum_by f (items_in (server.hand ++ handed ask)) ≡ sum_by f (items_in server.hand) + sum_by f (items_in (handed ask)) = items_in-append f server.hand (handed ask) in
      let z : sum_by f (items_in (handed ask)) ≡ sum_by f (items_of ask.what) = ap (λ (is : List Item). sum_by f is) h.1 in
      let b : sum_by f (items_in (server.hand ++ handed ask) ++ (left_by_take t).items) ≡ sum_by f (items_in (server.hand ++ handed ask)) + sum_by f (left_by_take t).items = sum_by-append f (items_in (server.hand ++ handed ask)) (left_by_take t).items in
      let c : sum_by f (items_of ask.what ++ (left_by_take t).items) ≡ sum_by f (items_of ask.what) + sum_by f (left_by_take t).items = sum_by-append f (items_of ask.what) (left_by_take t).items in
      let g : sum_by f (items_of ask.what ++ (left_by_take t).items) ≡ sum_by f t.items = ap (λ (is : List Item). sum_by f is) taken.was in
      let d : sum_by f w.items ≡ sum_by f (items_in server.hand ++ t.items) = u.items f in
      let e : sum_by f (items_in server.hand ++ t.items) ≡ sum_by f (items_in server.hand) + sum_by f t.items = sum_by-append f (items_in server.hand) t.items in
      omega arith;
  replies = λ f. u.replies f ∙ ap (λ (rs : List Reply). sum_by f (server.unposted ++ rs)) (sym taken.posted);
} where
  h : (asks_in (handed ask) ≡ []) × (items_in (handed ask) ≡ items_of ask.what)
  h = handed-items ask taken.no_ask

  same : asks_in (server.hand ++ handed ask) ≡ asks_in server.hand
  same = asks_in-append server.hand (handed ask) ∙ ap (λ (us : List Ask). asks_in server.hand ++ us) h.0 ∙ append-nil (asks_in server.hand)

-- ---- post

-- what is under way after a post: the reply went from the daemon to the broker
pub under-posted : (w : World) (t : TrafficState) (server : ServerState) (position : ℕ) (reply : Reply) (answered : List Seat) → slice_get server.unposted (position - 1) ≡ Some reply → IsUnderWay w t server →
    IsUnderWay (record w { answered = answered }) (reply_posted t reply) (with_posted server position)
under-posted w t server position reply answered at u = record {
  singles = u.singles;
  asks = u.asks;
  items = u.items;
  replies = λ f.
      let a : sum_by f server.unposted ≡ f reply + sum_by f (remove server.unposted (position - 1)) = sum-at f server.unposted (position - 1) reply at in
      let b : sum_by f (remove server.unposted (position - 1) ++ (t.posted ++ reply ∷ [])) ≡ sum_by f (remove server.unposted (position - 1)) + sum_by f (t.posted ++ reply ∷ []) = sum_by-append f (remove server.unposted (position - 1)) (t.posted ++ reply ∷ []) in
      let c : sum_by f (t.posted ++ reply ∷ []) ≡ sum_by f t.posted + f reply = sum_by_push f t.posted reply in
      let d : sum_by f w.replies ≡ sum_by f (server.unposted ++ t.posted) = u.replies f in
      let e : sum_by f (server.unposted ++ t.posted) ≡ sum_by f server.unposted + sum_by f t.posted = sum_by-append f server.unposted t.posted in
      omega arith;
}

-- an unposted reply is one of the world's replies, by its unique
pub posted-under : (w : World) (t : TrafficState) (server : ServerState) (position : ℕ) (reply : Reply) → slice_get server.unposted (position - 1) ≡ Some reply → IsUnderWay w t server →
    (found : Reply) × (first_where (is_replied reply.unique) w.replies ≡ Some found)
posted-under w t server position reply at u = counted-first (is_replied reply.unique) w.replies (
    let f : Reply → ℕ = λ r. mark (is_replied reply.unique r) in
    let a : sum_by f server.unposted ≡ f reply + sum_by f (remove server.unposted (position - 1)) = sum-at f server.unposted (position - 1) reply at in
    let o : f reply ≡ 1 = ap mark (eq-true reply.unique reply.unique refl) in
    let d : sum_by f w.replies ≡ sum_by f (server.unposted ++ t.posted) = u.replies f in
    let e : sum_by f (server.unposted ++ t.posted) ≡ sum_by f server.unposted + sum_by f t.posted = sum_by-append f server.unposted t.posted in
    let some : 0 < sum_by f w.replies = omega arith in some)

-- ---- work

-- the ask at a position of the hand is the world's ask of its unique
pub record IsAskAt (w : World) (t : TrafficState) (server : ServerState) (position : ℕ) (task : Ask) : Type 0 where
  pub first : first_where (is_asked task.unique) w.asks ≡ Some task
  pub left : without_where (is_asked task.unique) w.asks ≡ asks_in (remove server.hand (position - 1)) ++ t.untaken
  pub items : IsSameBag w.items (items_in (remove server.hand (position - 1)) ++ t.items)

pub ask-at : (w : World) (t : TrafficState) (server : ServerState) (position : ℕ) (task : Ask) → slice_get server.hand (position - 1) ≡ Some task → is_ask task.what ≡ true → count_by (is_asked task.unique) w.asks ≤ 1 → IsUnderWay w t server →
    IsAskAt w t server position task
ask-at w t server position task at ask few u = record {
  first = ap (λ (all : List Ask). first_where (is_asked task.unique) all) u.asks ∙ both.0;
  left = ap (λ (all : List Ask). without_where (is_asked task.unique) all) u.asks ∙ both.1 ∙ ap (λ (all : List Ask). all ++ t.untaken) own.1;
  items = λ f.
      let a : sum_by f (items_in server.hand) ≡ sum_by f (items_of task.what) + sum_by f (items_in (remove server.hand (position - 1))) = items-worked f server.hand (position - 1) task at in
      let z : sum_by f (items_of task.what) ≡ 0 = ap (λ (is : List Item). sum_by f is) (ask-items task.what ask) in
      let b : sum_by f (items_in (remove server.hand (position - 1)) ++ t.items) ≡ sum_by f (items_in (remove server.hand (position - 1))) + sum_by f t.items = sum_by-append f (items_in (remove server.hand (position - 1))) t.items in
      let d : sum_by f w.items ≡ sum_by f (items_in server.hand ++ t.items) = u.items f in
      let e : sum_by f (items_in server.hand ++ t.items) ≡ sum_by f (items_in server.hand) + sum_by f t.items = sum_by-append f (items_in server.hand) t.items in
      omega arith;
} where
  low : count_by (is_asked task.unique) (asks_in server.hand) ≤ 1
  low =
      let c : count_by (is_asked task.unique) w.asks ≡ count_by (is_asked task.unique) (asks_in server.hand ++ t.untaken) = ap (λ (all : List Ask). count_by (is_asked task.unique) all) u.asks in
      let a : count_by (is_asked task.unique) (asks_in server.hand ++ t.untaken) ≡ count_by (is_asked task.unique) (asks_in server.hand) + count_by (is_asked task.unique) t.untaken =
      sum_by-append (λ (x : Ask). mark (is_asked task.unique x)) (asks_in server.hand) t.untaken in
      omega (arith, few)

  own : (first_where (is_asked task.unique) (asks_in server.hand) ≡ Some task) × (without_where (is_asked task.unique) (asks_in server.hand) ≡ asks_in (remove server.hand (position - 1)))
  own = asks-worked server.hand (position - 1) task at ask low

  both : (first_where (is_asked task.unique) (asks_in server.hand ++ t.untaken) ≡ Some task) × (without_where (is_asked task.unique) (asks_in server.hand ++ t.untaken) ≡ without_where (is_asked task.unique) (asks_in server.hand) ++ t.untaken)
  both = first-append (is_asked task.unique) (asks_in server.hand) t.untaken task own.0

-- the replies under way after a daemon made one more
pub replies-made : (w : World) (t : TrafficState) (server : ServerState) (reply : Reply) → IsUnderWay w t server → IsSameBag (w.replies ++ reply ∷ []) ((server.unposted ++ reply ∷ []) ++ t.posted)
replies-made w t server reply u f =
    let a : sum_by f (w.replies ++ reply ∷ []) ≡ sum_by f w.replies + f reply = sum_by_push f w.replies reply in
    let b : sum_by f ((server.unposted ++ reply ∷ []) ++ t.posted) ≡ sum_by f (server.unposted ++ reply ∷ []) + sum_by f t.posted = sum_by-append f (server.unposted ++ reply ∷ []) t.posted in
    let c : sum_by f (server.unposted ++ reply ∷ []) ≡ sum_by f server.unposted + f reply = sum_by_push f server.unposted reply in
    let d : sum_by f w.replies ≡ sum_by f (server.unposted ++ t.posted) = u.replies f in
    let e : sum_by f (server.unposted ++ t.posted) ≡ sum_by f server.unposted + sum_by f t.posted = sum_by-append f server.unposted t.posted in
    omega arith

-- the item at a position of the hand is one of the world's items
pub record IsItemAt (w : World) (t : TrafficState) (server : ServerState) (position : ℕ) (item : Item) : Type 0 where
  pub first : first_where (is_item item) w.items ≡ Some item
  pub asks : w.asks ≡ asks_in (remove server.hand (position - 1)) ++ t.untaken
  pub left : IsSameBag (without_where (is_item item) w.items) (items_in (remove server.hand (position - 1)) ++ t.items)

same-item : (item : Item) → is_item item item ≡ true
same-item item = let a : (item.node.0 == item.node.0) ≡ true = eq-true item.node.0 item.node.0 refl in let b : (item.k == item.k) ≡ true = eq-true item.k item.k refl in rw (a, b) refl

item-same : (item other : Item) → is_item item other ≡ true → other ≡ item
item-same item other e =
    let r = both (other.node.0 == item.node.0) (other.k == item.k) e in
    let n : other.node.0 ≡ item.node.0 = true-eq other.node.0 item.node.0 r.0 in
    let k : other.k ≡ item.k = true-eq other.k item.k r.1 in
    λ i. record { node = record { 0 = n i }; k = k i } where
      both : (c d : Bool) → (c && d) ≡ true → (c ≡ true) × (d ≡ true)
      both true true h = (refl, refl)
      both true false h = absurd (let none : ⊥ = cc in none)
      both false d h = absurd (let none : ⊥ = cc in none)

pub item-at : (w : World) (t : TrafficState) (server : ServerState) (position : ℕ) (task : Ask) (item : Item) → slice_get server.hand (position - 1) ≡ Some task → is_ask task.what ≡ false → item_of task.what ≡ Some item → IsUnderWay w t server →
    IsItemAt w t server position item
item-at w t server position task item at forget is u = record {
  first = first;
  asks = u.asks ∙ ap (λ (all : List Ask). all ++ t.untaken) (sym (asks-forgot server.hand (position - 1) task at forget));
  left = λ f.
      let s : sum_by f w.items ≡ f item + sum_by f (without_where (is_item item) w.items) = sum-without f (is_item item) w.items item first in
      let h : sum_by f w.items ≡ f item + sum_by f (items_in (remove server.hand (position - 1)) ++ t.items) = sums f in
      omega arith;
} where
  sums : (f : Item → ℕ) → sum_by f w.items ≡ f item + sum_by f (items_in (remove server.hand (position - 1)) ++ t.items)
  sums f =
      let a : sum_by f (items_in server.hand) ≡ sum_by f (items_of task.what) + sum_by f (items_in (remove server.hand (position - 1))) = items-worked f server.hand (position - 1) task at in
      let z : sum_by f (items_of task.what) ≡ sum_by f (item ∷ []) = ap (λ (is : List Item). sum_by f is) (items-one task.what item is) in
      let o : sum_by f (item ∷ []) ≡ sum_by f [] + f item = sum_by_push f [] item in
      let n : sum_by f [] ≡ 0 = refl in
      let b : sum_by f (items_in (remove server.hand (position - 1)) ++ t.items) ≡ sum_by f (items_in (remove server.hand (position - 1))) + sum_by f t.items = sum_by-append f (items_in (remove server.hand (position - 1))) t.items in
      let d : sum_by f w.items ≡ sum_by f (items_in server.hand ++ t.items) = u.items f in
      let e : sum_by f (items_in server.hand ++ t.items) ≡ sum_by f (items_in server.hand) + sum_by f t.items = sum_by-append f (items_in server.hand) t.items in
      omega arith

  found : (other : Item) × (first_where (is_item item) w.items ≡ Some other)
  found = counted-first (is_item item) w.items (
      let s : sum_by (λ (x : Item). mark (is_item item x)) w.items ≡ mark (is_item item item) + sum_by (λ (x : Item). mark (is_item item x)) (items_in (remove server.hand (position - 1)) ++ t.items) = sums (λ (x : Item). mark (is_item item x)) in
      let o : mark (is_item item item) ≡ 1 = ap mark (same-item item) in
      let some : 0 < sum_by (λ (x : Item). mark (is_item item x)) w.items = omega arith in some)

  first : first_where (is_item item) w.items ≡ Some item
  first = found.1 ∙ ap Some (item-same item found.0 (first-passes (is_item item) w.items found.0 found.1))

-- ---- delivery

-- the reply that was posted first is measured as the world's reply of its unique
pub record IsReached (w : World) (t : TrafficState) (server : ServerState) (reply : Reply) : Type 0 where
  pub found : Reply
  pub first : first_where (is_replied reply.unique) w.replies ≡ Some found
  pub measured : (f : Reply → ℕ) → f found ≡ f reply
  pub left : IsSameBag (without_where (is_replied reply.unique) w.replies) (server.unposted ++ (reply_delivered t).posted)

reached_in : (w : World) (t : TrafficState) (server : ServerState) (reply : Reply) (rest : List Reply) → t.posted ≡ reply ∷ rest → count_by (is_replied reply.unique) w.replies ≤ 1 → IsUnderWay w t server → IsReached w t server reply
reached_in w t server reply rest is few u = record {
  found = found.0;
  first = found.1;
  measured = λ f. measured f;
  left = λ f.
      let s : sum_by f w.replies ≡ f found.0 + sum_by f (without_where p w.replies) = sum-without f p w.replies found.0 found.1 in
      let m : f found.0 ≡ f reply = measured f in
      let h : sum_by f w.replies ≡ f reply + sum_by f (server.unposted ++ rest) = sums f in
      let g : sum_by f (server.unposted ++ (reply_delivered t).posted) ≡ sum_by f (server.unposted ++ rest) = ap (λ (rs : List Reply). sum_by f (server.unposted ++ drop 1 rs)) is in
      omega arith;
} where
  p : Reply → Bool
  p = is_replied reply.unique

  sums : (f : Reply → ℕ) → sum_by f w.replies ≡ f reply + sum_by f (server.unposted ++ rest)
  sums f =
      let d : sum_by f w.replies ≡ sum_by f (server.unposted ++ t.posted) = u.replies f in
      let e : sum_by f (server.unposted ++ t.posted) ≡ sum_by f server.unposted + sum_by f t.posted = sum_by-append f server.unposted t.posted in
      let a : sum_by f t.posted ≡ sum_by f (reply ∷ rest) = ap (λ (rs : List Reply). sum_by f rs) is in
      let b : sum_by f (reply ∷ rest) ≡ f reply + sum_by f rest = sum_by-cons f reply rest in
      let c : sum_by f (server.unposted ++ rest) ≡ sum_by f server.unposted + sum_by f rest = sum_by-append f server.unposted rest in
      omega arith

  first_of : List Reply
  first_of = reply ∷ (server.unposted ++ rest)

  same : IsSameBag w.replies first_of
  same f = sums f ∙ sym (sum_by-cons f reply (server.unposted ++ rest))

  its : (reply.unique == reply.unique) ≡ true
  its = eq-true reply.unique reply.unique refl

  found : (r : Reply) × (first_where p w.replies ≡ Some r)
  found = counted-first p w.replies (
      let s : sum_by (λ (x : Reply). mark (p x)) w.replies ≡ mark (reply.unique == reply.unique) + sum_by (λ (x : Reply). mark (p x)) (server.unposted ++ rest) = sums (λ (x : Reply). mark (p x)) in
      let o : mark (reply.unique == reply.unique) ≡ 1 = ap mark its in
      let some : 0 < sum_by (λ (x : Reply). mark (p x)) w.replies = omega arith in some)

  measured : (f : Reply → ℕ) → f found.0 ≡ f reply
  measured f = same-measure p w.replies first_of found.0 reply same found.1 (rw its refl) few f

pub reached : (w : World) (t : TrafficState) (server : ServerState) (reply : Reply) → front t.posted ≡ Some reply → count_by (is_replied reply.unique) w.replies ≤ 1 → IsUnderWay w t server → IsReached w t server reply
reached w t server reply is few u = in_ t.posted refl is where
  in_ : (rs : List Reply) → t.posted ≡ rs → front rs ≡ Some reply → IsReached w t server reply
  in_ [] e f = absurd (let none : ⊥ = cc in none)
  in_ (r ∷ rest) e f = let same : r ≡ reply = cc in reached_in w t server reply rest (e ∙ ap (λ (x : Reply). x ∷ rest) same) few u
