-- What the broker waits for once a reply was posted.
use Rattle.std.proofs.Common.{◌≡◌, ℕ, suc, zero, ◌+◌, ◌≤◌, true, false, ◌&&◌, List, [], ◌∷◌, Option, Some, None, refl, sym, ap, ◌∙◌, subst, arith}
use Rattle.std.specs.Prelude.{◌==◌, sum_by, slice_get, remove}
use Rattle.std.specs.Option.{option_map, option_map_or}
use Rattle.std.specs.List.{AllByRecursion}
use Rattle.std.proofs.lemmas.List.Sums.{sum_by-cons}
use Rattle.eden_base.specs.First.{first_where, without_where}
use Rattle.eden_base.proofs.FirstLemmas.{first_where-without_other}
use Rattle.eden_base.proofs.NumberTests.{eq-true, eq-false, true-eq}
use Rattle.fuse_wire.specs.Request.{form_of}
use Rattle.fuse_wire.specs.Form.{belongs}
use Rattle.fuse_wire.specs.declared.form.Form.{Form}
use Rattle.fuse_wire.specs.declared.request.Ask.{Ask}
use Rattle.fuse_wire.specs.declared.reply.Reply.{Reply}
use Rattle.broker_core.specs.Traffic.{TrafficState, is_of, form_asked, is_asked, may_be_given, reply_posted}
use Rattle.daemon.specs.Server.{ServerState}
use Rattle.world.specs.Attending.{of_ask, of_reply, of_taken, IsWaitedFor, IsAwaited}
use Rattle.world.proofs.Bags.{mark, first-passes, sum-without, sum-at}
use Rattle.world.proofs.Awaiting.{Asked, only, asked-on, marked-apart}

-- how often a unique is that of an ask in hand, or of an unposted reply
abbrev pub times_in : ServerState → ℕ → ℕ
times_in server unique = sum_by (of_ask (only unique)) server.hand + sum_by (of_reply (only unique)) server.unposted

-- if the sum of a measure over a list is 0, the measure of each member is 0
each-nothing : {X : Type 0} (f : X → ℕ) (xs : List X) → sum_by f xs ≡ 0 → AllByRecursion (λ (x : X). f x ≡ 0) xs
each-nothing f [] e = tt
each-nothing f (x ∷ xs) e =
    let c : sum_by f (x ∷ xs) ≡ f x + sum_by f xs = sum_by-cons f x xs in
    ((let z : f x ≡ 0 = omega (arith, e) in z), each-nothing f xs (omega (arith, e)))

both-each : {X : Type 0} (P Q R : X → Type 0) (xs : List X) → ((x : X) → P x → Q x → R x) → AllByRecursion P xs → AllByRecursion Q xs → AllByRecursion R xs
both-each P Q R [] f a b = tt
both-each P Q R (x ∷ xs) f a b = (f x a.0 b.0, both-each P Q R xs f a.1 b.1)

-- what holds of all members holds of the one at an index, and of the others
each-but : {X : Type 0} (P : X → Type 0) (xs : List X) (i : ℕ) (x : X) → slice_get xs i ≡ Some x → AllByRecursion P xs → P x × AllByRecursion P (remove xs i)
each-but P [] i x at a = absurd (let none : ⊥ = cc in none)
each-but P (y ∷ xs) zero x at a = let same : y ≡ x = cc in (subst P same a.0, a.1)
each-but P (y ∷ xs) (suc i) x at a = let r = each-but P xs i x at a.1 in (r.0, (a.0, r.1))

-- after a reply was posted, whose unique is that of no other, the broker waits for what is still to be answered
pub awaited-posted : (t : TrafficState) (server : ServerState) (i : ℕ) (reply : Reply) → slice_get server.unposted i ≡ Some reply → times_in server reply.unique ≤ 1 → IsAwaited t server → IsAwaited (reply_posted t reply) (record server { unposted = remove server.unposted i })
awaited-posted t server i reply at few a = record {
  uniques = λ f.
      let s : sum_by (of_taken f) t.taken ≡ of_taken f found.0 + sum_by (of_taken f) (without_where (is_of reply.unique) t.taken) = sum-without (of_taken f) (is_of reply.unique) t.taken found.0 found.1 in
      let u : of_taken f found.0 ≡ f reply.unique = ap f (sym unique_is) in
      let r : sum_by (of_reply f) server.unposted ≡ f reply.unique + sum_by (of_reply f) (remove server.unposted i) = sum-at (of_reply f) server.unposted i reply at in
      let old : sum_by (of_taken f) t.taken ≡ sum_by (of_ask f) server.hand + sum_by (of_reply f) server.unposted = a.uniques f in
      omega arith;
  forms = both-each (IsWaitedFor t) (λ (task : Ask). of_ask (only reply.unique) task ≡ 0) (IsWaitedFor (reply_posted t reply)) server.hand
      (λ task waits none is. still task.unique (form_of task.what) (marked-apart task.unique reply.unique (let o : of_ask (only reply.unique) task ≡ only reply.unique task.unique = rw is refl in sym o ∙ none)) (waits is)) a.forms (each-nothing (of_ask (only reply.unique)) server.hand no_ask);
  replies = both-each (λ (r : Reply). is_asked t r ≡ true) (λ (r : Reply). of_reply (only reply.unique) r ≡ 0) (λ (r : Reply). is_asked (reply_posted t reply) r ≡ true) (remove server.unposted i)
      (λ r asked none. asked-on t (reply_posted t reply) r (λ form e. still r.unique form (marked-apart r.unique reply.unique none) e) asked)
      its.1 (each-nothing (of_reply (only reply.unique)) (remove server.unposted i) no_reply);
} where
  here : sum_by (of_reply (only reply.unique)) server.unposted ≡ mark (reply.unique == reply.unique) + sum_by (of_reply (only reply.unique)) (remove server.unposted i)
  here = sum-at (of_reply (only reply.unique)) server.unposted i reply at

  one : mark (reply.unique == reply.unique) ≡ 1
  one = ap mark (eq-true reply.unique reply.unique refl)

  no_ask : sum_by (of_ask (only reply.unique)) server.hand ≡ 0
  no_ask = let h = here in let o = one in omega (arith, few, h, o)

  no_reply : sum_by (of_reply (only reply.unique)) (remove server.unposted i) ≡ 0
  no_reply = let h = here in let o = one in omega (arith, few, h, o)

  its : (is_asked t reply ≡ true) × AllByRecursion (λ (r : Reply). is_asked t r ≡ true) (remove server.unposted i)
  its = each-but (λ (r : Reply). is_asked t r ≡ true) server.unposted i reply at a.replies

  found : (x : Asked) × (first_where (is_of reply.unique) t.taken ≡ Some x)
  found = in_ (first_where (is_of reply.unique) t.taken) refl its.0 where
    in_ : (o : Option Asked) → first_where (is_of reply.unique) t.taken ≡ o → option_map_or (λ (form : Form). belongs form reply.answer && may_be_given reply.answer) (option_map (λ (asked : Asked). asked.1) o) false ≡ true → (x : Asked) × (first_where (is_of reply.unique) t.taken ≡ Some x)
    in_ None e h = absurd (let none : ⊥ = cc in none)
    in_ (Some x) e h = (x, e)

  unique_is : reply.unique ≡ (found.0).0
  unique_is = true-eq reply.unique (found.0).0 (first-passes (is_of reply.unique) t.taken found.0 found.1)

  -- the broker still waits for an ask of another unique
  still : (unique : ℕ) (form : Form) → (unique ≡ reply.unique → ⊥) → form_asked t unique ≡ Some form → form_asked (reply_posted t reply) unique ≡ Some form
  still unique form apart e = ap (option_map (λ (asked : Asked). asked.1)) (first_where-without_other (is_of reply.unique) (is_of unique) t.taken
      (λ x is. eq-false unique x.0 (λ same. apart (same ∙ sym (true-eq reply.unique x.0 is))))) ∙ e
