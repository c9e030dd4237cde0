-- What the broker keeps of its fields is kept by each call: what is held and what is under way took uniques.
use Rattle.std.proofs.Common.{◌≡◌, ℕ, ◌+◌, ◌++◌, ◌<◌, ◌≤◌, Bool, true, false, cond, List, [], ◌∷◌, length, take, drop, map, Option, Some, None, is_some, refl, sym, ap, arith}
use Rattle.std.specs.Prelude.{◌==◌, ◌&&◌, Result, Ok, Err, is_ok, OnOk, OnErr}
use Rattle.std.specs.Option.{option_map_or}
use Rattle.std.proofs.lemmas.List.{length-append, length_push}
use Rattle.eden_base.specs.First.{first_where}
use Rattle.eden_base.specs.declared.number.Number.{Number}
use Rattle.eden_base.proofs.MemberLemmas.{length-without_where}
use Rattle.fuse_wire.specs.Given.{given_out}
use Rattle.fuse_wire.specs.declared.request.Ask.{Ask}
use Rattle.fuse_wire.specs.declared.item.Item.{Item}
use Rattle.fuse_wire.specs.declared.reply.Reply.{Reply}
use Rattle.broker_core.specs.Broker.{held_with}
use Rattle.fuse_wire.specs.Form.{belongs}
use Rattle.broker_core.specs.Held.{HeldMap, held_count, none_held, raised, lowered}
use Rattle.broker_core.specs.Inside.{IsConsistent}
use Rattle.broker_core.specs.Traffic.{TrafficState, no_traffic, front, asks_under_way, asked_of, item_issued, items_go_first, ask_taken, left_by_take, is_of, is_asked, may_be_given, reply_posted, reply_delivered}
use Rattle.broker_core.specs.declared.broker.Broker.TheInside.{Inside}
use Rattle.broker_core.proofs.AskedLaws.{Asked}
use Rattle.broker_core.proofs.HeldLaws.{held_count-none, held_count-raised, held_count-lowered}
use Rattle.broker_core.proofs.LaterLaws.{later_none, later_item, later_taken, later_posted, later_delivered}
use Rattle.broker_core.proofs.Moves.{has-ask}

pub consistent-first : IsConsistent (record { seat = None; last = 0; held = none_held; next_unique = 1; traffic = no_traffic })
consistent-first = record { generation = omega arith; uniques = omega arith; later = later_none 1; asked_for = λ n. omega (arith, held_count-none n) }

-- an item that waits lowers a count
pub consistent-item : (b : Inside) (item : Item) → IsConsistent b → IsConsistent (record b { held = lowered b.held item.node.0 item.k; traffic = item_issued b.traffic item })
consistent-item b item kept = record {
  generation = kept.generation;
  uniques = kept.uniques;
  later = later_item b.traffic b.next_unique item kept.later;
  asked_for = λ n. omega (arith, held_count-lowered b.held item.node.0 item.k n, kept.asked_for n);
}

under_way-take : (t : TrafficState) → asks_under_way (ask_taken t) ≡ asks_under_way t
under_way-take t = by_untaken t.untaken where
  by_untaken : (asks : List Ask) → length (drop 1 asks) + length (t.taken ++ map asked_of (take 1 asks)) + length t.posted ≡ length asks + length t.taken + length t.posted
  by_untaken [] = omega (arith, length-append t.taken [])
  by_untaken (a ∷ asks) = omega (arith, length_push t.taken (asked_of a))

pub consistent-take : (b : Inside) → IsConsistent b → IsConsistent (record b { traffic = left_by_take b.traffic })
consistent-take b kept = record {
  generation = kept.generation;
  uniques = kept.uniques;
  later = later_taken b.traffic b.next_unique kept.later;
  asked_for = λ n. either n (items_go_first b.traffic);
} where
  either : (n : ℕ) (items : Bool) → (let t = cond items (record b.traffic { items = drop 256 b.traffic.items }) (ask_taken b.traffic) in held_count b.held n + asks_under_way t < b.next_unique)
  either n true = omega (arith, kept.asked_for n)
  either n false = omega (arith, kept.asked_for n, under_way-take b.traffic)

under_way-post : (t : TrafficState) (reply : Reply) → is_asked t reply ≡ true → asks_under_way (reply_posted t reply) ≡ asks_under_way t
under_way-post t reply asked = by_ask (first_where (is_of reply.unique) t.taken) refl (has-ask (λ form. belongs form reply.answer && may_be_given reply.answer) (first_where (is_of reply.unique) t.taken) asked) where
  by_ask : (o : Option Asked) → first_where (is_of reply.unique) t.taken ≡ o → is_some o ≡ true → asks_under_way (reply_posted t reply) ≡ asks_under_way t
  by_ask None is some = absurd (let none : ⊥ = cc in none)
  by_ask (Some ask) is some = omega (arith, length-without_where t.taken (is_of reply.unique) ask is, length_push t.posted reply)

pub consistent-post : (b : Inside) (reply : Reply) → is_asked b.traffic reply ≡ true → IsConsistent b → IsConsistent (record b { traffic = reply_posted b.traffic reply })
consistent-post b reply asked kept = record {
  generation = kept.generation;
  uniques = kept.uniques;
  later = later_posted b.traffic b.next_unique reply kept.later;
  asked_for = λ n. omega (arith, kept.asked_for n, under_way-post b.traffic reply asked);
}

-- a reply that was asked for is appended to the posted ones, and any other changes nothing
pub consistent-posted : {A F : Type 0} (b : Inside) (reply : Reply) (result : Result A F) (t : TrafficState) → OnOk result (t ≡ reply_posted b.traffic reply) → is_ok result ≡ is_asked b.traffic reply → OnErr result (t ≡ b.traffic) →
    IsConsistent b → IsConsistent (record b { traffic = t })
consistent-posted b reply (Ok done) t posted asked unchanged kept = rw posted (consistent-post b reply (sym asked) kept)
consistent-posted b reply (Err fault) t posted asked unchanged kept = rw unchanged kept

once-more : (held : HeldMap) (reply : Reply) (n : ℕ) → held_count (held_with held (Some reply)) n ≤ held_count held n + 1
once-more held reply n = by_number (given_out reply.answer) where
  by_number : (o : Option Number) → held_count (option_map_or (λ (number : Number). raised held number.0) o held) n ≤ held_count held n + 1
  by_number None = omega arith
  by_number (Some number) = either (number.0 == n) (held_count-raised held number.0 n) where
    either : (same : Bool) → held_count (raised held number.0) n ≡ held_count held n + cond same 1 0 → held_count (raised held number.0) n ≤ held_count held n + 1
    either true e = omega arith
    either false e = omega arith

-- a reply that gives a number out leaves as that number is held once more
pub consistent-delivery : (b : Inside) (reply : Reply) → front b.traffic.posted ≡ Some reply → IsConsistent b → IsConsistent (record b { held = held_with b.held (Some reply); traffic = reply_delivered b.traffic })
consistent-delivery b reply first kept = record {
  generation = kept.generation;
  uniques = kept.uniques;
  later = later_delivered b.traffic b.next_unique kept.later;
  asked_for = λ n. omega (arith, kept.asked_for n, once-more b.held reply n, fewer b.traffic.posted first);
} where
  fewer : (posted : List Reply) → front posted ≡ Some reply → length (drop 1 posted) + 1 ≡ length posted
  fewer [] is = absurd (let none : ⊥ = cc in none)
  fewer (r ∷ posted) is = omega arith

-- what a reply that gives a number out, or gives none, makes of the held numbers
pub given-number : (held : HeldMap) (reply : Reply) (number : Number) → given_out reply.answer ≡ Some number → held_with held (Some reply) ≡ raised held number.0
given-number held reply number is = ap (λ (o : Option Number). option_map_or (λ (n : Number). raised held n.0) o held) is

pub given-none : (held : HeldMap) (reply : Reply) → given_out reply.answer ≡ None → held_with held (Some reply) ≡ held
given-none held reply is = ap (λ (o : Option Number). option_map_or (λ (n : Number). raised held n.0) o held) is

pub consistent-delivered : (b now : Inside) (reply : Reply) (t : TrafficState) → front b.traffic.posted ≡ Some reply → IsConsistent b → now ≡ record b { held = held_with b.held (Some reply) } → t ≡ reply_delivered now.traffic → IsConsistent (record now { traffic = t })
consistent-delivered b now reply t first kept is left = rw (left, is) (consistent-delivery b reply first kept)

-- where nothing is held or under way, nothing more was asked for than uniques were taken
pub consistent-ended : (b : Inside) → IsConsistent b → IsConsistent (record b { seat = None; held = none_held; traffic = no_traffic })
consistent-ended b kept = record {
  generation = kept.generation;
  uniques = kept.uniques;
  later = later_none b.next_unique;
  asked_for = λ n. omega (arith, held_count-none n, kept.asked_for n);
}
