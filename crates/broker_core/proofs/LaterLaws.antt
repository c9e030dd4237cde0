-- Each call keeps a unique above those of all asks without a reply; an ask takes it, and the next is above again.
use Rattle.std.proofs.Common.{ℕ, ◌<◌, Bool, true, false, cond, List, [], ◌∷◌, take, drop, map}
use Rattle.std.specs.Prelude.{All}
use Rattle.std.proofs.lemmas.List.Elements.{All-nil, All-cons, All-head, All-tail, All-append, All-map, All-take, All-drop}
use Rattle.eden_base.specs.First.{without_where}
use Rattle.fuse_wire.specs.declared.request.Ask.{Ask}
use Rattle.fuse_wire.specs.declared.item.Item.{Item}
use Rattle.fuse_wire.specs.declared.reply.Reply.{Reply}
use Rattle.broker_core.specs.Traffic.{TrafficState, IsLater, no_traffic, item_issued, items_go_first, ask_taken, left_by_take, asked_of, is_of, reply_posted, reply_delivered}
use Rattle.broker_core.proofs.AskedLaws.{Asked, Below}

abbrev AskBelow : ℕ → Ask → Type 0
AskBelow k ask = ask.unique < k

pub later_none : (k : ℕ) → IsLater no_traffic k
later_none k = record { untaken = All-nil (AskBelow k); taken = All-nil (Below k) }

pub later_item : (t : TrafficState) (k : ℕ) (item : Item) → IsLater t k → IsLater (item_issued t item) k
later_item t k item later = record { untaken = later.untaken; taken = later.taken }

pub later_taken : (t : TrafficState) (k : ℕ) → IsLater t k → IsLater (left_by_take t) k
later_taken t k later = either (items_go_first t) where
  either : (b : Bool) → IsLater (cond b (record t { items = drop 256 t.items }) (ask_taken t)) k
  either true = record { untaken = later.untaken; taken = later.taken }
  either false = record {
    untaken = All-drop (AskBelow k) 1 t.untaken later.untaken;
    taken = All-append (Below k) t.taken (map asked_of (take 1 t.untaken)) later.taken (All-map (Below k) asked_of (take 1 t.untaken) (All-take (AskBelow k) 1 t.untaken later.untaken));
  }

without : (P : Asked → Type 0) (p : Asked → Bool) (xs : List Asked) → All P xs → All P (without_where p xs)
without P p [] all = all
without P p (x ∷ xs) all = either (p x) (without P p xs (All-tail P x xs all)) where
  either : (b : Bool) → All P (without_where p xs) → All P (cond b xs (x ∷ without_where p xs))
  either true rest = All-tail P x xs all
  either false rest = All-cons P x (without_where p xs) (All-head P x xs all) rest

pub later_posted : (t : TrafficState) (k : ℕ) (reply : Reply) → IsLater t k → IsLater (reply_posted t reply) k
later_posted t k reply later = record { untaken = later.untaken; taken = without (Below k) (is_of reply.unique) t.taken later.taken }

pub later_delivered : (t : TrafficState) (k : ℕ) → IsLater t k → IsLater (reply_delivered t) k
later_delivered t k later = record { untaken = later.untaken; taken = later.taken }
