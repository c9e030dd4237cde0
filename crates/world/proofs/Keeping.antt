-- What a call of the broker keeps of each part of a match: of its books, of who answered, and of the seat.
use Rattle.std.proofs.Common.{◌≡◌, ℕ, suc, zero, ◌+◌, ◌-◌, ◌<◌, ◌≤◌, Bool, true, false, ◌&&◌, ◌||◌, List, [], ◌∷◌, Option, Some, None, refl, sym, ap, ◌∙◌, subst, inl, inr, ◌⊎◌, arith}
use Rattle.std.specs.Prelude.{◌==◌, Contains, nat_lt, if◌then◌else◌}
use Rattle.std.specs.Option.{option_map_or}
use Rattle.std.specs.List.{AllByRecursion, list_all}
use Rattle.std.proofs.lemmas.Bool.Decides.{nat_tests}
use Rattle.eden_base.proofs.NumberTests.{true-eq}
use Rattle.eden_base.specs.declared.number.DaemonId.{DaemonId}
use Rattle.eden_base.specs.declared.number.Number.{Number}
use Rattle.fuse_wire.specs.Given.{given_out}
use Rattle.fuse_wire.specs.declared.request.Ask.{Ask}
use Rattle.fuse_wire.specs.declared.request.Request.{Request}
use Rattle.fuse_wire.specs.declared.item.Item.{Item}
use Rattle.fuse_wire.specs.declared.reply.Answer.{Answer}
use Rattle.fuse_wire.specs.declared.reply.Reply.{Reply}
use Rattle.broker_core.specs.Broker.{BrokerState, may_be_asked, mounted, asked, forgot, held_with, delivered as broker_delivered}
use Rattle.broker_core.specs.Held.{HeldMap, held_count, raised}
use Rattle.broker_core.specs.Traffic.{TrafficState, front}
use Rattle.broker_core.specs.declared.seat.Seat.{Seat}
use Rattle.broker_core.proofs.HeldLaws.{held_count-raised, held_count-lowered}
use Rattle.world.specs.World.{World, mount, MayGoTo, times, without_times, held_after, carries, gives, after}
use Rattle.world.specs.Agreement.{Books, AnsweredBefore, SeatIsLast}
use Rattle.world.proofs.Bags.{mark}
use Rattle.world.proofs.Times.{times-without}

-- a member of a list is its first member, or one of the others
pub contains_cons : {X : Type 0} (x y : X) (xs : List X) → Contains (x ∷ xs) y → (x ≡ y) ⊎ Contains xs y
contains_cons x y xs (zero, low, e) = inl e
contains_cons x y xs (suc k, low, e) = inr (k, omega (arith, low), e)

-- ---- the broker's books

pub books-mounted : (w : World) (b : BrokerState) (daemon : DaemonId) → Books w b → Books (after w (mount daemon)) (mounted b daemon)
books-mounted w b daemon books = record {
  seat = ap (λ n. Some (record { generation = n + 1; daemon = daemon })) books.last;
  last = ap (λ n. n + 1) books.last;
  held = books.held;
  uniques = books.uniques;
}

-- the books after an ask was issued: it uses the next unique
pub books-asked : (w : World) (b : BrokerState) (request : Request) (asks : List Ask) → Books w b → Books (record w { asks = asks; uniques = b.next_unique ∷ w.uniques }) (asked b request)
books-asked w b request asks books = record {
  seat = books.seat;
  last = books.last;
  held = books.held;
  uniques = λ u c. used u (contains_cons b.next_unique u w.uniques c);
} where
  used : (u : ℕ) → (b.next_unique ≡ u) ⊎ Contains w.uniques u → u < b.next_unique + 1
  used u (inl e) = omega arith
  used u (inr c) = let low : u < b.next_unique = books.uniques u c in omega arith

-- the books after an item was issued: its number is held less often, by the item's count
pub books-forgot : (w : World) (b : BrokerState) (item : Item) (items : List Item) → Books w b → Books (record w { held = without_times item.k item.node.0 w.held; items = items }) (forgot b item)
books-forgot w b item items books = record {
  seat = books.seat;
  last = books.last;
  held = λ n. times-without w.held item.node.0 item.k n ∙ less_in n (item.node.0 == n) ∙ sym (held_count-lowered b.held item.node.0 item.k n);
  uniques = books.uniques;
} where
  less_in : (n : ℕ) (c : Bool) → (if c then times n w.held - item.k else times n w.held) ≡ held_count b.held n - (if c then item.k else 0)
  less_in n true = ap (λ i. i - item.k) (books.held n)
  less_in n false = let h : times n w.held ≡ held_count b.held n = books.held n in omega arith

-- the books do not depend on what is in a queue
pub books-queued : (w : World) (b : BrokerState) (traffic : TrafficState) → Books w b → Books w (record b { traffic = traffic })
books-queued w b traffic books = record { seat = books.seat; last = books.last; held = books.held; uniques = books.uniques }

-- how often the world holds a number after an answer was delivered
pub times-held : (n : ℕ) (held : List ℕ) (answer : Answer) → times n (held_after held answer) ≡ times n held + mark (gives n answer)
times-held n held answer = in_ (given_out answer) where
  one_in : (c : Bool) → (if c then 1 else 0) + times n held ≡ times n held + mark c
  one_in true = omega arith
  one_in false = omega arith

  in_ : (o : Option Number) → times n (option_map_or (λ (number : Number). number.0 ∷ held) o held) ≡ times n held + mark (option_map_or (λ (number : Number). number.0 == n) o false)
  in_ None = let z : mark false ≡ 0 = refl in omega arith
  in_ (Some number) = one_in (number.0 == n)

-- how often the broker holds a number after a reply was delivered
count-held : (n : ℕ) (held : HeldMap) (reply : Reply) → held_count (held_with held (Some reply)) n ≡ held_count held n + mark (carries n reply)
count-held n held reply = in_ (given_out reply.answer) where
  one_in : (c : Bool) (x y : ℕ) → x ≡ y + (if c then 1 else 0) → x ≡ y + mark c
  one_in true x y e = e
  one_in false x y e = e

  in_ : (o : Option Number) → held_count (option_map_or (λ (number : Number). raised held number.0) o held) n ≡ held_count held n + mark (option_map_or (λ (number : Number). number.0 == n) o false)
  in_ None = let z : mark false ≡ 0 = refl in omega arith
  in_ (Some number) = one_in (number.0 == n) (held_count (raised held number.0) n) (held_count held n) (held_count-raised held number.0 n)

-- the books after a reply was delivered: the world and the broker hold its number once more
pub books-delivered : (w : World) (b : BrokerState) (reply found : Reply) (replies : List Reply) → front b.traffic.posted ≡ Some reply → ((f : Reply → ℕ) → f found ≡ f reply) → Books w b →
    Books (record w { held = held_after w.held found.answer; replies = replies }) (broker_delivered b)
books-delivered w b reply found replies first same books = record {
  seat = books.seat;
  last = books.last;
  held = λ n.
      let t : times n (held_after w.held found.answer) ≡ times n w.held + mark (carries n found) = times-held n w.held found.answer in
      let c : held_count (held_with b.held (Some reply)) n ≡ held_count b.held n + mark (carries n reply) = count-held n b.held reply in
      let m : mark (carries n found) ≡ mark (carries n reply) = same (λ (r : Reply). mark (carries n r)) in
      let h : times n w.held ≡ held_count b.held n = books.held n in
      let f : held_count (held_with b.held (front b.traffic.posted)) n ≡ held_count (held_with b.held (Some reply)) n = ap (λ (o : Option Reply). held_count (held_with b.held o) n) first in
      omega arith;
  uniques = books.uniques;
}

-- ---- who answered

pub answered-mounted : (w : World) (daemon : DaemonId) → AnsweredBefore w → AnsweredBefore (after w (mount daemon))
answered-mounted w daemon a = record {
  one_daemon = a.one_daemon;
  at_most = λ seat c. let l : seat.generation ≤ w.last = a.at_most seat c in omega arith;
  holder = λ seat other e c same. absurd (let new : Seat = record { generation = w.last + 1; daemon = daemon } in let is : new ≡ seat = cc in
      let g : w.last + 1 ≡ seat.generation = ap (λ (s : Seat). s.generation) is in let l : other.generation ≤ w.last = a.at_most other c in omega arith);
}

-- who answered does not depend on what is under way, held or named
pub answered-still : (w new : World) → new.seat ≡ w.seat → new.last ≡ w.last → new.answered ≡ w.answered → AnsweredBefore w → AnsweredBefore new
answered-still w new seat last answered a = record {
  one_daemon = λ one other c d e. a.one_daemon one other (was one c) (was other d) e;
  at_most = λ s c. subst (λ (n : ℕ). s.generation ≤ n) (sym last) (a.at_most s (was s c));
  holder = λ s other e c same. a.holder s other (sym seat ∙ e) (was other c) same;
} where
  was : (s : Seat) → Contains new.answered s → Contains w.answered s
  was s c = subst (λ (all : List Seat). Contains all s) answered c

-- who answered, after the daemon of the seat answered
pub answered-posted : (w : World) (seat : Seat) → AnsweredBefore w → SeatIsLast w → w.seat ≡ Some seat → AnsweredBefore (record w { answered = seat ∷ w.answered })
answered-posted w seat a last at = record {
  one_daemon = λ one other c d e. one_in one other (contains_cons seat one w.answered c) (contains_cons seat other w.answered d) e;
  at_most = λ s c. most_in s (contains_cons seat s w.answered c);
  holder = λ s other e c same. let both : Some seat ≡ Some s = sym at ∙ e in let is : seat ≡ s = cc in holder_in s is other (contains_cons seat other w.answered c) same;
} where
  is_last : seat.generation ≡ w.last
  is_last = last.is_last seat at

  one_in : (one other : Seat) → (seat ≡ one) ⊎ Contains w.answered one → (seat ≡ other) ⊎ Contains w.answered other → one.generation ≡ other.generation → one ≡ other
  one_in one other (inl c) (inl d) e = sym c ∙ d
  one_in one other (inl c) (inr d) e = sym c ∙ sym (a.holder seat other at d (sym e ∙ ap (λ (s : Seat). s.generation) (sym c)))
  one_in one other (inr c) (inl d) e = a.holder seat one at c (e ∙ ap (λ (s : Seat). s.generation) (sym d)) ∙ d
  one_in one other (inr c) (inr d) e = a.one_daemon one other c d e

  most_in : (s : Seat) → (seat ≡ s) ⊎ Contains w.answered s → s.generation ≤ w.last
  most_in s (inl c) = let g : seat.generation ≡ s.generation = ap (λ (x : Seat). x.generation) c in let l : seat.generation ≡ w.last = is_last in omega arith
  most_in s (inr c) = a.at_most s c

  holder_in : (s : Seat) → seat ≡ s → (other : Seat) → (seat ≡ other) ⊎ Contains w.answered other → other.generation ≡ s.generation → other ≡ s
  holder_in s is other (inl c) same = sym c ∙ is
  holder_in s is other (inr c) same = a.holder seat other at c (same ∙ ap (λ (x : Seat). x.generation) (sym is)) ∙ is

-- ---- the seat

pub seat-mounted : (w : World) (daemon : DaemonId) → SeatIsLast (after w (mount daemon))
seat-mounted w daemon = record {
  is_last = λ seat e. let new : Seat = record { generation = w.last + 1; daemon = daemon } in let is : new ≡ seat = cc in ap (λ (s : Seat). s.generation) (sym is);
  empty = λ e. absurd (let none : ⊥ = cc in none);
}

-- the seat is still at the last generation if it stays
pub seat-stays : (w new : World) (seat : Seat) → SeatIsLast w → w.seat ≡ Some seat → new.seat ≡ Some seat → new.last ≡ w.last → SeatIsLast new
seat-stays w new seat last at now same = record {
  is_last = λ s e. last.is_last s (at ∙ sym now ∙ e) ∙ sym same;
  empty = λ e. absurd (let n : Some seat ≡ None = sym now ∙ e in let none : ⊥ = cc in none);
}

-- ---- what may be asked

-- the kernel may name the numbers that the broker lets it name
pub may_go : (w : World) (b : BrokerState) → Books w b → (numbers : List Number) → list_all (may_be_asked b) numbers ≡ true → AllByRecursion (MayGoTo w) numbers
may_go w b books [] all = tt
may_go w b books (n ∷ numbers) all = (go_in (n.0 == 1) (nat_lt 0 (held_count b.held n.0)) refl refl (both (may_be_asked b n) (list_all (may_be_asked b) numbers) all).0, may_go w b books numbers (both (may_be_asked b n) (list_all (may_be_asked b) numbers) all).1) where
  both : (c d : Bool) → (c && d) ≡ true → (c ≡ true) × (d ≡ true)
  both true true e = (refl, refl)
  both true false e = absurd (let none : ⊥ = cc in none)
  both false d e = absurd (let none : ⊥ = cc in none)

  go_in : (c d : Bool) → (n.0 == 1) ≡ c → nat_lt 0 (held_count b.held n.0) ≡ d → (c || d) ≡ true → MayGoTo w n
  go_in true d e f t = inl (true-eq n.0 1 e)
  go_in false true e f t = inr (let h : times n.0 w.held ≡ held_count b.held n.0 = books.held n.0 in let some : 0 < held_count b.held n.0 = grind (arith, nat_tests) in omega arith)
  go_in false false e f t = absurd (let none : ⊥ = cc in none)
