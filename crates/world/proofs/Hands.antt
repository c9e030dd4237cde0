-- What a daemon has in hand: it grows at its end by what was taken, and loses what was worked.
use Rattle.std.proofs.Common.{◌≡◌, ℕ, suc, zero, ◌+◌, ◌≤◌, Bool, true, false, List, [], ◌∷◌, ◌++◌, Option, Some, None, map, refl, ap, ◌∙◌, subst, arith}
use Rattle.std.specs.Prelude.{◌==◌, sum_by, count_by, slice_get, remove, if◌then◌else◌}
use Rattle.std.proofs.lemmas.List.Sums.{sum_by-append}
use Rattle.eden_base.proofs.NumberTests.{eq-true}
use Rattle.eden_base.specs.First.{first_where, without_where}
use Rattle.fuse_wire.specs.Request.{is_ask, item_of, items_of}
use Rattle.fuse_wire.specs.declared.request.Ask.{Ask}
use Rattle.fuse_wire.specs.declared.item.Item.{Item}
use Rattle.std.specs.List.{AllByRecursion}
use Rattle.daemon.specs.Server.{single, handed, is_single}
use Rattle.world.specs.World.{is_asked}
use Rattle.world.specs.Agreement.{asks_in, items_in}
use Rattle.fuse_wire.proofs.ItemLaws.{ask-items}
use Rattle.world.proofs.Bags.{mark, count-cons, sum-without}

-- ---- what joins it

pub asks_in-append : (xs ys : List Ask) → asks_in (xs ++ ys) ≡ asks_in xs ++ asks_in ys
asks_in-append [] ys = refl
asks_in-append (task ∷ xs) ys = in_ (is_ask task.what) (asks_in-append xs ys) where
  in_ : (b : Bool) → asks_in (xs ++ ys) ≡ asks_in xs ++ asks_in ys → (if b then task ∷ asks_in (xs ++ ys) else asks_in (xs ++ ys)) ≡ (if b then task ∷ asks_in xs else asks_in xs) ++ asks_in ys
  in_ true more = ap (λ all. task ∷ all) more
  in_ false more = more

pub items_in-append : (f : Item → ℕ) (xs ys : List Ask) → sum_by f (items_in (xs ++ ys)) ≡ sum_by f (items_in xs) + sum_by f (items_in ys)
items_in-append f [] ys = let z : sum_by f (items_in []) ≡ 0 = refl in omega arith
items_in-append f (task ∷ xs) ys =
    let h : sum_by f (items_in (xs ++ ys)) ≡ sum_by f (items_in xs) + sum_by f (items_in ys) = items_in-append f xs ys in
    let a : sum_by f (items_of task.what ++ items_in (xs ++ ys)) ≡ sum_by f (items_of task.what) + sum_by f (items_in (xs ++ ys)) = sum_by-append f (items_of task.what) (items_in (xs ++ ys)) in
    let b : sum_by f (items_of task.what ++ items_in xs) ≡ sum_by f (items_of task.what) + sum_by f (items_in xs) = sum_by-append f (items_of task.what) (items_in xs) in
    omega arith

asks_in-singles : (items : List Item) → asks_in (map single items) ≡ []
asks_in-singles [] = refl
asks_in-singles (item ∷ items) = asks_in-singles items

items_in-singles : (items : List Item) → items_in (map single items) ≡ items
items_in-singles [] = refl
items_in-singles (item ∷ items) = ap (λ (is : List Item). item ∷ is) (items_in-singles items)

-- what an ask brings into the hand, and what items do
pub handed-ask : (ask : Ask) → is_ask ask.what ≡ true → (asks_in (handed ask) ≡ ask ∷ []) × (items_in (handed ask) ≡ [])
handed-ask ask e = (rw (e, e) refl, rw e (ap (λ (is : List Item). is ++ []) (ask-items ask.what e)))

pub handed-items : (ask : Ask) → is_ask ask.what ≡ false → (asks_in (handed ask) ≡ []) × (items_in (handed ask) ≡ items_of ask.what)
handed-items ask e = (rw e (asks_in-singles (items_of ask.what)), rw e (items_in-singles (items_of ask.what)))

-- what joins the hand is an ask or single items
pub handed-single : (ask : Ask) → AllByRecursion (λ (task : Ask). is_single task ≡ true) (handed ask)
handed-single ask = in_ (is_ask ask.what) refl where
  all : (items : List Item) → AllByRecursion (λ (task : Ask). is_single task ≡ true) (map single items)
  all [] = tt
  all (item ∷ items) = (refl, all items)

  in_ : (b : Bool) → is_ask ask.what ≡ b → AllByRecursion (λ (task : Ask). is_single task ≡ true) (if b then ask ∷ [] else map single (items_of ask.what))
  in_ true e = (rw e refl, tt)
  in_ false e = all (items_of ask.what)

-- what holds of all members of a hand holds of the one at an index, and of the others
pub at-single : (P : Ask → Type 0) (hand : List Ask) (i : ℕ) (task : Ask) → slice_get hand i ≡ Some task → AllByRecursion P hand → P task × AllByRecursion P (remove hand i)
at-single P [] i task at every = absurd (let none : ⊥ = cc in none)
at-single P (first ∷ hand) zero task at every = let same : first ≡ task = cc in (subst P same every.0, every.1)
at-single P (first ∷ hand) (suc i) task at every = let r = at-single P hand i task at every.1 in (r.0, (every.0, r.1))

-- a member of a hand that is no ask is an item
pub single-item : (task : Ask) → is_single task ≡ true → is_ask task.what ≡ false → (item : Item) × (item_of task.what ≡ Some item)
single-item task single forget = in_ (item_of task.what) refl where
  in_ : (o : Option Item) → item_of task.what ≡ o → (item : Item) × (o ≡ Some item)
  in_ (Some item) e = (item, refl)
  in_ None e = absurd (let f : is_single task ≡ false = rw (forget, e) refl in let none : ⊥ = cc in none)

-- ---- what leaves it

-- an ask that is worked is the only one of its unique
pub asks-worked : (hand : List Ask) (i : ℕ) (task : Ask) → slice_get hand i ≡ Some task → is_ask task.what ≡ true → count_by (is_asked task.unique) (asks_in hand) ≤ 1 →
    (first_where (is_asked task.unique) (asks_in hand) ≡ Some task) × (without_where (is_asked task.unique) (asks_in hand) ≡ asks_in (remove hand i))
asks-worked [] i task at ask few = absurd (let none : ⊥ = cc in none)
asks-worked (first ∷ hand) zero task at ask few =
    let same : first ≡ task = cc in
    let its : is_ask first.what ≡ true = ap (λ (a : Ask). is_ask a.what) same ∙ ask in
    let u : (first.unique == task.unique) ≡ true = eq-true first.unique task.unique (ap (λ (a : Ask). a.unique) same) in
    (rw (its, u) (ap Some same), rw (its, u) refl)
asks-worked (first ∷ hand) (suc i) task at ask few = in_ (is_ask first.what) refl (λ low. asks-worked hand i task at ask low) where
  Says : List Ask → List Ask → Type 0
  Says all left = (first_where (is_asked task.unique) all ≡ Some task) × (without_where (is_asked task.unique) all ≡ left)

  behind : Says (asks_in hand) (asks_in (remove hand i)) → (b : Bool) → (first.unique == task.unique) ≡ b → count_by (is_asked task.unique) (first ∷ asks_in hand) ≤ 1 → Says (first ∷ asks_in hand) (first ∷ asks_in (remove hand i))
  behind r true t c = absurd (
      let a : count_by (is_asked task.unique) (first ∷ asks_in hand) ≡ mark (first.unique == task.unique) + count_by (is_asked task.unique) (asks_in hand) = count-cons (is_asked task.unique) first (asks_in hand) in
      let m : mark (first.unique == task.unique) ≡ 1 = ap mark t in
      let s : count_by (is_asked task.unique) (asks_in hand) ≡ mark (task.unique == task.unique) + count_by (is_asked task.unique) (without_where (is_asked task.unique) (asks_in hand)) =
      sum-without (λ (x : Ask). mark (is_asked task.unique x)) (is_asked task.unique) (asks_in hand) task r.0 in
      let n : mark (task.unique == task.unique) ≡ 1 = ap mark (eq-true task.unique task.unique refl) in
      omega (arith, c))
  behind r false t c = (rw t r.0, rw t (ap (λ all. first ∷ all) r.1))

  in_ : (b : Bool) → is_ask first.what ≡ b → (count_by (is_asked task.unique) (asks_in hand) ≤ 1 → Says (asks_in hand) (asks_in (remove hand i))) →
      Says (if b then first ∷ asks_in hand else asks_in hand) (if b then first ∷ asks_in (remove hand i) else asks_in (remove hand i))
  in_ true e more =
      let c : count_by (is_asked task.unique) (first ∷ asks_in hand) ≤ 1 = subst (λ (b : Bool). count_by (is_asked task.unique) (if b then first ∷ asks_in hand else asks_in hand) ≤ 1) e few in
      let a : count_by (is_asked task.unique) (first ∷ asks_in hand) ≡ mark (first.unique == task.unique) + count_by (is_asked task.unique) (asks_in hand) = count-cons (is_asked task.unique) first (asks_in hand) in
      behind (more (omega (arith, c))) (first.unique == task.unique) refl c
  in_ false e more = more (subst (λ (b : Bool). count_by (is_asked task.unique) (if b then first ∷ asks_in hand else asks_in hand) ≤ 1) e few)

-- a forget that is worked leaves the asks in hand as they were
pub asks-forgot : (hand : List Ask) (i : ℕ) (task : Ask) → slice_get hand i ≡ Some task → is_ask task.what ≡ false → asks_in (remove hand i) ≡ asks_in hand
asks-forgot [] i task at forget = absurd (let none : ⊥ = cc in none)
asks-forgot (first ∷ hand) zero task at forget =
    let same : first ≡ task = cc in
    let its : is_ask first.what ≡ false = ap (λ (a : Ask). is_ask a.what) same ∙ forget in rw its refl
asks-forgot (first ∷ hand) (suc i) task at forget = in_ (is_ask first.what) (asks-forgot hand i task at forget) where
  in_ : (b : Bool) → asks_in (remove hand i) ≡ asks_in hand → (if b then first ∷ asks_in (remove hand i) else asks_in (remove hand i)) ≡ (if b then first ∷ asks_in hand else asks_in hand)
  in_ true more = ap (λ all. first ∷ all) more
  in_ false more = more

-- a sum over the items in hand is that over a member's items, and that over the items of the others
pub items-worked : (f : Item → ℕ) (hand : List Ask) (i : ℕ) (task : Ask) → slice_get hand i ≡ Some task → sum_by f (items_in hand) ≡ sum_by f (items_of task.what) + sum_by f (items_in (remove hand i))
items-worked f [] i task at = absurd (let none : ⊥ = cc in none)
items-worked f (first ∷ hand) zero task at = let same : first ≡ task = cc in
    sum_by-append f (items_of first.what) (items_in hand) ∙ ap (λ (a : Ask). sum_by f (items_of a.what) + sum_by f (items_in hand)) same
items-worked f (first ∷ hand) (suc i) task at =
    let h : sum_by f (items_in hand) ≡ sum_by f (items_of task.what) + sum_by f (items_in (remove hand i)) = items-worked f hand i task at in
    let a : sum_by f (items_of first.what ++ items_in hand) ≡ sum_by f (items_of first.what) + sum_by f (items_in hand) = sum_by-append f (items_of first.what) (items_in hand) in
    let b : sum_by f (items_of first.what ++ items_in (remove hand i)) ≡ sum_by f (items_of first.what) + sum_by f (items_in (remove hand i)) = sum_by-append f (items_of first.what) (items_in (remove hand i)) in
    omega arith
