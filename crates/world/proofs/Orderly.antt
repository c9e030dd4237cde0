-- What is under way stays orderly over each move: a unique is one ask's or one reply's, and no item is bad.
use Rattle.std.proofs.Common.{◌≡◌, ℕ, ◌+◌, ◌≤◌, Bool, true, false, List, [], ◌∷◌, ◌++◌, Some, refl, sym, ap, ◌∙◌, subst, arith}
use Rattle.std.specs.Prelude.{◌==◌, count_by}
use Rattle.std.specs.List.{AllByRecursion}
use Rattle.eden_base.proofs.FirstLemmas.{Each-append, Each-without_where}
use Rattle.eden_base.proofs.NumberTests.{eq-false, true-eq}
use Rattle.eden_base.specs.First.{first_where, without_where}
use Rattle.fuse_wire.specs.Request.{is_ask}
use Rattle.fuse_wire.specs.declared.request.Ask.{Ask}
use Rattle.fuse_wire.specs.declared.item.Item.{Item}
use Rattle.fuse_wire.specs.declared.reply.Reply.{Reply}
use Rattle.world.specs.World.{World, is_asked, is_replied, is_item}
use Rattle.world.specs.Agreement.{is_bad, IsOrderly}
use Rattle.world.proofs.Bags.{mark, count-push, first-passes, sum-without}

-- the request is an ask
abbrev pub IsAsk : Ask → Type 0
IsAsk ask = is_ask ask.what ≡ true

-- what is under way stays orderly after an ask with the next unique
pub orderly-asked : (w : World) (ask : Ask) (asks : List Ask) → asks ≡ w.asks ++ ask ∷ [] → is_ask ask.what ≡ true → IsOrderly w ask.unique → (uniques : List ℕ) → IsOrderly (record w { asks = asks; uniques = uniques }) (ask.unique + 1)
orderly-asked w ask asks is its o uniques = record {
  asked = subst (λ (all : List Ask). AllByRecursion IsAsk all) (sym is) (Each-append IsAsk w.asks (ask ∷ []) o.asked (its, tt));
  once = λ u. once_in u (ask.unique == u) refl;
  used = λ u above.
      let p : count_by (is_asked u) asks ≡ count_by (is_asked u) w.asks + mark (ask.unique == u) = pushed u in
      let z : mark (ask.unique == u) ≡ 0 = ap mark (eq-false ask.unique u (λ e. omega arith)) in
      let old : count_by (is_asked u) w.asks + count_by (is_replied u) w.replies ≡ 0 = o.used u (omega arith) in
      omega arith;
  good = o.good;
} where
  pushed : (u : ℕ) → count_by (is_asked u) asks ≡ count_by (is_asked u) w.asks + mark (ask.unique == u)
  pushed u = ap (λ (all : List Ask). count_by (is_asked u) all) is ∙ count-push (is_asked u) w.asks ask

  once_in : (u : ℕ) (b : Bool) → (ask.unique == u) ≡ b → count_by (is_asked u) asks + count_by (is_replied u) w.replies ≤ 1
  once_in u true t =
      let p : count_by (is_asked u) asks ≡ count_by (is_asked u) w.asks + mark (ask.unique == u) = pushed u in
      let m : mark (ask.unique == u) ≡ 1 = ap mark t in
      let e : ask.unique ≡ u = true-eq ask.unique u t in
      let old : count_by (is_asked u) w.asks + count_by (is_replied u) w.replies ≡ 0 = o.used u (omega arith) in
      omega arith
  once_in u false t =
      let p : count_by (is_asked u) asks ≡ count_by (is_asked u) w.asks + mark (ask.unique == u) = pushed u in
      let m : mark (ask.unique == u) ≡ 0 = ap mark t in
      let old : count_by (is_asked u) w.asks + count_by (is_replied u) w.replies ≤ 1 = o.once u in
      omega arith

-- what is under way stays orderly after a good item
pub orderly-forgot : (w : World) (next : ℕ) (item : Item) (held : List ℕ) → is_bad item ≡ false → IsOrderly w next → IsOrderly (record w { held = held; items = w.items ++ item ∷ [] }) next
orderly-forgot w next item held good o = record {
  asked = o.asked;
  once = o.once;
  used = o.used;
  good =
      let p : count_by is_bad (w.items ++ item ∷ []) ≡ count_by is_bad w.items + mark (is_bad item) = count-push is_bad w.items item in
      let z : mark (is_bad item) ≡ 0 = ap mark good in
      let old : count_by is_bad w.items ≡ 0 = o.good in
      omega arith;
}

-- what is under way stays orderly after an ask was answered
pub orderly-worked : (w new : World) (next : ℕ) (task : Ask) (reply : Reply) → first_where (is_asked task.unique) w.asks ≡ Some task → reply.unique ≡ task.unique → new.asks ≡ without_where (is_asked task.unique) w.asks → new.items ≡ w.items →
    new.replies ≡ w.replies ++ reply ∷ [] → IsOrderly w next → IsOrderly new next
orderly-worked w new next task reply first same asks items replies o = record {
  asked = subst (λ (all : List Ask). AllByRecursion IsAsk all) (sym asks) (Each-without_where (is_asked task.unique) IsAsk w.asks o.asked);
  once = λ u. let e : count_by (is_asked u) new.asks + count_by (is_replied u) new.replies ≡ count_by (is_asked u) w.asks + count_by (is_replied u) w.replies = total u in
      let old : count_by (is_asked u) w.asks + count_by (is_replied u) w.replies ≤ 1 = o.once u in omega arith;
  used = λ u above. total u ∙ o.used u above;
  good = ap (λ (all : List Item). count_by is_bad all) items ∙ o.good;
} where
  total : (u : ℕ) → count_by (is_asked u) new.asks + count_by (is_replied u) new.replies ≡ count_by (is_asked u) w.asks + count_by (is_replied u) w.replies
  total u =
      let a : count_by (is_asked u) w.asks ≡ mark (task.unique == u) + count_by (is_asked u) (without_where (is_asked task.unique) w.asks) = sum-without (λ (x : Ask). mark (is_asked u x)) (is_asked task.unique) w.asks task first in
      let b : count_by (is_asked u) new.asks ≡ count_by (is_asked u) (without_where (is_asked task.unique) w.asks) = ap (λ (all : List Ask). count_by (is_asked u) all) asks in
      let c : count_by (is_replied u) new.replies ≡ count_by (is_replied u) (w.replies ++ reply ∷ []) = ap (λ (all : List Reply). count_by (is_replied u) all) replies in
      let d : count_by (is_replied u) (w.replies ++ reply ∷ []) ≡ count_by (is_replied u) w.replies + mark (reply.unique == u) = count-push (is_replied u) w.replies reply in
      let e : mark (reply.unique == u) ≡ mark (task.unique == u) = ap (λ (n : ℕ). mark (n == u)) same in
      omega arith

-- what is under way stays orderly after an item was applied
pub orderly-applied : (w : World) (next : ℕ) (item : Item) → first_where (is_item item) w.items ≡ Some item → IsOrderly w next → IsOrderly (record w { items = without_where (is_item item) w.items }) next
orderly-applied w next item first o = record {
  asked = o.asked;
  once = o.once;
  used = o.used;
  good =
      let s : count_by is_bad w.items ≡ mark (is_bad item) + count_by is_bad (without_where (is_item item) w.items) = sum-without (λ (x : Item). mark (is_bad x)) (is_item item) w.items item first in
      let old : count_by is_bad w.items ≡ 0 = o.good in
      omega arith;
}

-- an item under way is good
pub applied-good : (w : World) (next : ℕ) (item : Item) → first_where (is_item item) w.items ≡ Some item → IsOrderly w next → is_bad item ≡ false
applied-good w next item first o = in_ (is_bad item) refl where
  in_ : (b : Bool) → is_bad item ≡ b → b ≡ false
  in_ false e = refl
  in_ true e = absurd (
      let s : count_by is_bad w.items ≡ mark (is_bad item) + count_by is_bad (without_where (is_item item) w.items) = sum-without (λ (x : Item). mark (is_bad x)) (is_item item) w.items item first in
      let m : mark (is_bad item) ≡ 1 = ap mark e in
      let old : count_by is_bad w.items ≡ 0 = o.good in
      omega arith)

-- what is under way stays orderly after a reply was delivered
pub orderly-delivered : (w : World) (next unique : ℕ) (found : Reply) (held : List ℕ) → first_where (is_replied unique) w.replies ≡ Some found → IsOrderly w next →
    IsOrderly (record w { held = held; replies = without_where (is_replied found.unique) w.replies }) next
orderly-delivered w next unique found held first o = record {
  asked = o.asked;
  once = λ u. let l : count_by (is_replied u) (without_where (is_replied found.unique) w.replies) ≤ count_by (is_replied u) w.replies = less u in
      let old : count_by (is_asked u) w.asks + count_by (is_replied u) w.replies ≤ 1 = o.once u in omega arith;
  used = λ u above. let l : count_by (is_replied u) (without_where (is_replied found.unique) w.replies) ≤ count_by (is_replied u) w.replies = less u in
      let old : count_by (is_asked u) w.asks + count_by (is_replied u) w.replies ≡ 0 = o.used u above in omega arith;
  good = o.good;
} where
  its : first_where (is_replied found.unique) w.replies ≡ Some found
  its = ap (λ (u : ℕ). first_where (is_replied u) w.replies) (true-eq found.unique unique (first-passes (is_replied unique) w.replies found first)) ∙ first

  less : (u : ℕ) → count_by (is_replied u) (without_where (is_replied found.unique) w.replies) ≤ count_by (is_replied u) w.replies
  less u = let s : count_by (is_replied u) w.replies ≡ mark (is_replied u found) + count_by (is_replied u) (without_where (is_replied found.unique) w.replies) = sum-without (λ (x : Reply). mark (is_replied u x)) (is_replied found.unique) w.replies found its in
      omega arith
