-- Each call of the broker and of the daemon leaves this: the broker waits for what the daemon of the seat has to
-- answer.
use Rattle.std.proofs.Common.{◌≡◌, ℕ, ◌+◌, Bool, true, false, ◌&&◌, List, [], ◌∷◌, ◌++◌, Option, Some, None, map, refl, sym, ap, ◌∙◌, subst, arith}
use Rattle.std.specs.Prelude.{◌==◌, sum_by, slice_get, remove, if◌then◌else◌}
use Rattle.std.specs.Option.{option_map, option_map_or}
use Rattle.std.specs.List.{AllByRecursion}
use Rattle.std.proofs.lemmas.List.Sums.{sum_by-cons, sum_by-append, sum_by_push}
use Rattle.eden_base.specs.First.{first_where}
use Rattle.eden_base.proofs.FirstLemmas.{Each-append, Each-kept}
use Rattle.eden_base.proofs.NumberTests.{eq-true, eq-false}
use Rattle.fuse_wire.specs.Request.{is_ask, form_of}
use Rattle.fuse_wire.specs.Form.{belongs}
use Rattle.fuse_wire.specs.declared.form.Form.{Form}
use Rattle.fuse_wire.specs.declared.item.Item.{Item}
use Rattle.fuse_wire.specs.declared.request.Ask.{Ask}
use Rattle.fuse_wire.specs.declared.reply.Reply.{Reply}
use Rattle.broker_core.specs.Traffic.{TrafficState, asked_of, is_of, form_asked, is_asked, may_be_given}
use Rattle.daemon.specs.Server.{ServerState, IsIdle, single}
use Rattle.world.specs.Attending.{of_ask, of_reply, of_taken, IsWaitedFor, IsAwaited}
use Rattle.world.proofs.Bags.{mark, sum-at}
use Rattle.world.proofs.Hands.{at-single}

abbrev pub Asked : Type 0
Asked = ℕ × Form

-- ---- the same taken asks

-- what the broker waits for depends on the taken asks alone
pub awaited-along : (t now : TrafficState) (server : ServerState) → now.taken ≡ t.taken → IsAwaited t server → IsAwaited now server
awaited-along t now server same a = subst (λ (ts : List Asked). IsAwaited (record now { taken = ts }) server) (sym same) (record { uniques = a.uniques; forms = a.forms; replies = a.replies })

-- if nothing is in hand or unposted, the broker waits for nothing
pub awaited-none : (t : TrafficState) (server : ServerState) → IsIdle server → IsAwaited t server → t.taken ≡ []
awaited-none t server idle a = in_ t.taken refl where
  none : sum_by (of_taken (λ (u : ℕ). 1)) t.taken ≡ 0
  none = a.uniques (λ (u : ℕ). 1) ∙ ap (λ (hand : List Ask). sum_by (of_ask (λ (u : ℕ). 1)) hand + sum_by (of_reply (λ (u : ℕ). 1)) server.unposted) idle.hand ∙ ap (λ (rs : List Reply). 0 + sum_by (of_reply (λ (u : ℕ). 1)) rs) idle.unposted

  in_ : (ts : List Asked) → t.taken ≡ ts → ts ≡ []
  in_ [] e = refl
  in_ (x ∷ ts) e = absurd (
      let s : sum_by (of_taken (λ (u : ℕ). 1)) t.taken ≡ sum_by (of_taken (λ (u : ℕ). 1)) (x ∷ ts) = ap (λ (all : List Asked). sum_by (of_taken (λ (u : ℕ). 1)) all) e in
      let c : sum_by (of_taken (λ (u : ℕ). 1)) (x ∷ ts) ≡ 1 + sum_by (of_taken (λ (u : ℕ). 1)) ts = sum_by-cons (of_taken (λ (u : ℕ). 1)) x ts in
      let z = none in omega arith)

pub idle-awaited : (t : TrafficState) (server : ServerState) → t.taken ≡ [] → IsIdle server → IsAwaited t server
idle-awaited t server none idle = record {
  uniques = λ f. ap (λ (ts : List Asked). sum_by (of_taken f) ts) none ∙ sym (ap (λ (hand : List Ask). sum_by (of_ask f) hand + sum_by (of_reply f) server.unposted) idle.hand ∙ ap (λ (rs : List Reply). 0 + sum_by (of_reply f) rs) idle.unposted);
  forms = subst (λ (hand : List Ask). AllByRecursion (IsWaitedFor t) hand) (sym idle.hand) tt;
  replies = subst (λ (rs : List Reply). AllByRecursion (λ (r : Reply). is_asked t r ≡ true) rs) (sym idle.unposted) tt;
}

-- ---- what is found

-- what was found in a list is found in a longer one
found-on : (p : Asked → Bool) (xs ys : List Asked) (form : Form) → option_map (λ (asked : Asked). asked.1) (first_where p xs) ≡ Some form → option_map (λ (asked : Asked). asked.1) (first_where p (xs ++ ys)) ≡ Some form
found-on p [] ys form e = absurd (let none : ⊥ = cc in none)
found-on p (x ∷ xs) ys form e = in_ (p x) e (found-on p xs ys form) where
  in_ : (b : Bool) → option_map (λ (asked : Asked). asked.1) (if b then Some x else first_where p xs) ≡ Some form → (option_map (λ (asked : Asked). asked.1) (first_where p xs) ≡ Some form → option_map (λ (asked : Asked). asked.1) (first_where p (xs ++ ys)) ≡ Some form) →
      option_map (λ (asked : Asked). asked.1) (if b then Some x else first_where p (xs ++ ys)) ≡ Some form
  in_ true h more = h
  in_ false h more = more h

-- a unique whose mark is 0 is another one
pub marked-apart : (m n : ℕ) → mark (m == n) ≡ 0 → m ≡ n → ⊥
marked-apart m n e same = let one : mark (m == n) ≡ 1 = ap mark (eq-true m n same) in omega (arith, e)

-- the measure that counts one unique
abbrev pub only : ℕ → ℕ → ℕ
only unique u = mark (u == unique)

-- a new ask at the end is found by its unique, if the unique was not in the list
found-last : (unique : ℕ) (xs : List Asked) (x : Asked) → sum_by (of_taken (only unique)) xs ≡ 0 → unique ≡ x.0 → first_where (is_of unique) (xs ++ x ∷ []) ≡ Some x
found-last unique [] x none e = let t : (unique == x.0) ≡ true = eq-true unique x.0 e in rw t refl
found-last unique (y ∷ xs) x none e =
    let c : sum_by (of_taken (only unique)) (y ∷ xs) ≡ only unique y.0 + sum_by (of_taken (only unique)) xs = sum_by-cons (of_taken (only unique)) y xs in
    let apart : y.0 ≡ unique → ⊥ = marked-apart y.0 unique (omega (arith, none)) in
    let f : (unique == y.0) ≡ false = eq-false unique y.0 (λ same. apart (sym same)) in
    rw f (found-last unique xs x (omega (arith, none)) e)

-- the broker takes a reply if it waits for the reply's ask in the same form
pub asked-on : (t now : TrafficState) (reply : Reply) → ((form : Form) → form_asked t reply.unique ≡ Some form → form_asked now reply.unique ≡ Some form) → is_asked t reply ≡ true → is_asked now reply ≡ true
asked-on t now reply on e = in_ (form_asked t reply.unique) refl e where
  in_ : (o : Option Form) → form_asked t reply.unique ≡ o → option_map_or (λ (form : Form). belongs form reply.answer && may_be_given reply.answer) o false ≡ true → is_asked now reply ≡ true
  in_ None f h = absurd (let none : ⊥ = cc in none)
  in_ (Some form) f h = ap (λ (o : Option Form). option_map_or (λ (x : Form). belongs x reply.answer && may_be_given reply.answer) o false) (on form f) ∙ h

-- ---- take

-- the broker waits for what is to be answered after an ask was taken
pub awaited-asked : (t now : TrafficState) (server : ServerState) (ask : Ask) → is_ask ask.what ≡ true → now.taken ≡ t.taken ++ asked_of ask ∷ [] → sum_by (of_taken (only ask.unique)) t.taken ≡ 0 → IsAwaited t server → IsAwaited now (record server { hand = server.hand ++ ask ∷ [] })
awaited-asked t now server ask its taken fresh a = record {
  uniques = λ f.
      let n : sum_by (of_taken f) now.taken ≡ sum_by (of_taken f) (t.taken ++ asked_of ask ∷ []) = ap (λ (ts : List Asked). sum_by (of_taken f) ts) taken in
      let p : sum_by (of_taken f) (t.taken ++ asked_of ask ∷ []) ≡ sum_by (of_taken f) t.taken + f ask.unique = sum_by_push (of_taken f) t.taken (asked_of ask) in
      let h : sum_by (of_ask f) (server.hand ++ ask ∷ []) ≡ sum_by (of_ask f) server.hand + of_ask f ask = sum_by_push (of_ask f) server.hand ask in
      let o : of_ask f ask ≡ f ask.unique = rw its refl in
      let old : sum_by (of_taken f) t.taken ≡ sum_by (of_ask f) server.hand + sum_by (of_reply f) server.unposted = a.uniques f in
      omega arith;
  forms = Each-append (IsWaitedFor now) server.hand (ask ∷ []) (Each-kept (IsWaitedFor t) (IsWaitedFor now) server.hand a.forms (λ task waits is. on task.unique (form_of task.what) (waits is))) (λ is. new, tt);
  replies = Each-kept (λ (r : Reply). is_asked t r ≡ true) (λ (r : Reply). is_asked now r ≡ true) server.unposted a.replies (λ r e. asked-on t now r (on r.unique) e);
} where
  on : (unique : ℕ) (form : Form) → form_asked t unique ≡ Some form → form_asked now unique ≡ Some form
  on unique form e = subst (λ (ts : List Asked). option_map (λ (asked : Asked). asked.1) (first_where (is_of unique) ts) ≡ Some form) (sym taken) (found-on (is_of unique) t.taken (asked_of ask ∷ []) form e)

  new : form_asked now ask.unique ≡ Some (form_of ask.what)
  new = subst (λ (ts : List Asked). option_map (λ (asked : Asked). asked.1) (first_where (is_of ask.unique) ts) ≡ Some (form_of ask.what)) (sym taken)
      (ap (option_map (λ (asked : Asked). asked.1)) (found-last ask.unique t.taken (asked_of ask) fresh refl))

-- the broker waits for what is to be answered after items were taken
pub awaited-items : (t now : TrafficState) (server : ServerState) (items : List Item) → now.taken ≡ t.taken → IsAwaited t server → IsAwaited now (record server { hand = server.hand ++ map single items })
awaited-items t now server items taken a = awaited-along t now (record server { hand = server.hand ++ map single items }) taken (record {
  uniques = λ f.
      let h : sum_by (of_ask f) (server.hand ++ map single items) ≡ sum_by (of_ask f) server.hand + sum_by (of_ask f) (map single items) = sum_by-append (of_ask f) server.hand (map single items) in
      let z : sum_by (of_ask f) (map single items) ≡ 0 = nothing f items in
      let old : sum_by (of_taken f) t.taken ≡ sum_by (of_ask f) server.hand + sum_by (of_reply f) server.unposted = a.uniques f in
      omega arith;
  forms = Each-append (IsWaitedFor t) server.hand (map single items) a.forms (none items);
  replies = a.replies;
}) where
  nothing : (f : ℕ → ℕ) (is : List Item) → sum_by (of_ask f) (map single is) ≡ 0
  nothing f [] = refl
  nothing f (item ∷ is) =
      let c : sum_by (of_ask f) (single item ∷ map single is) ≡ of_ask f (single item) + sum_by (of_ask f) (map single is) = sum_by-cons (of_ask f) (single item) (map single is) in
      let z : of_ask f (single item) ≡ 0 = refl in
      let rest : sum_by (of_ask f) (map single is) ≡ 0 = nothing f is in
      omega arith

  none : (is : List Item) → AllByRecursion (IsWaitedFor t) (map single is)
  none [] = tt
  none (item ∷ is) = (λ e. absurd (let x : ⊥ = cc in x), none is)

-- ---- work

-- the broker waits for what is to be answered after an ask was answered
pub awaited-worked : (t : TrafficState) (server : ServerState) (i : ℕ) (task : Ask) (reply : Reply) → slice_get server.hand i ≡ Some task → is_ask task.what ≡ true → reply.unique ≡ task.unique → (belongs (form_of task.what) reply.answer && may_be_given reply.answer) ≡ true → IsAwaited t server →
    IsAwaited t (record server { hand = remove server.hand i; unposted = server.unposted ++ reply ∷ [] })
awaited-worked t server i task reply at its same takes a = record {
  uniques = λ f.
      let h : sum_by (of_ask f) server.hand ≡ of_ask f task + sum_by (of_ask f) (remove server.hand i) = sum-at (of_ask f) server.hand i task at in
      let o : of_ask f task ≡ f task.unique = rw its refl in
      let p : sum_by (of_reply f) (server.unposted ++ reply ∷ []) ≡ sum_by (of_reply f) server.unposted + f reply.unique = sum_by_push (of_reply f) server.unposted reply in
      let u : f reply.unique ≡ f task.unique = ap f same in
      let old : sum_by (of_taken f) t.taken ≡ sum_by (of_ask f) server.hand + sum_by (of_reply f) server.unposted = a.uniques f in
      omega arith;
  forms = left.1;
  replies = Each-append (λ (r : Reply). is_asked t r ≡ true) server.unposted (reply ∷ []) a.replies (asked, tt);
} where
  left : IsWaitedFor t task × AllByRecursion (IsWaitedFor t) (remove server.hand i)
  left = at-single (IsWaitedFor t) server.hand i task at a.forms

  asked : is_asked t reply ≡ true
  asked = ap (λ (o : Option Form). option_map_or (λ (x : Form). belongs x reply.answer && may_be_given reply.answer) o false) (ap (form_asked t) same ∙ left.0 its) ∙ takes

-- the broker waits for what is to be answered after an item was applied
pub awaited-applied : (t : TrafficState) (server : ServerState) (i : ℕ) (task : Ask) → slice_get server.hand i ≡ Some task → is_ask task.what ≡ false → IsAwaited t server → IsAwaited t (record server { hand = remove server.hand i; unposted = server.unposted ++ [] })
awaited-applied t server i task at its a = record {
  uniques = λ f.
      let h : sum_by (of_ask f) server.hand ≡ of_ask f task + sum_by (of_ask f) (remove server.hand i) = sum-at (of_ask f) server.hand i task at in
      let o : of_ask f task ≡ 0 = rw its refl in
      let p : sum_by (of_reply f) (server.unposted ++ []) ≡ sum_by (of_reply f) server.unposted + sum_by (of_reply f) [] = sum_by-append (of_reply f) server.unposted [] in
      let z : sum_by (of_reply f) [] ≡ 0 = refl in
      let old : sum_by (of_taken f) t.taken ≡ sum_by (of_ask f) server.hand + sum_by (of_reply f) server.unposted = a.uniques f in
      omega arith;
  forms = (at-single (IsWaitedFor t) server.hand i task at a.forms).1;
  replies = Each-append (λ (r : Reply). is_asked t r ≡ true) server.unposted [] a.replies tt;
}
