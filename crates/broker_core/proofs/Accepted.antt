-- What it says that nothing refuses a mount, an ask or a forget.
use Rattle.std.proofs.Common.{◌≡◌, ◌<◌, ◌≤◌, Bool, true, false, not, cond, ◌||◌, Option, Some, None, is_some, is_none, if◌then◌else◌, refl, arith}
use Rattle.std.specs.Prelude.{◌==◌, ◌≢◌, nat_le, nat_lt}
use Rattle.std.specs.List.{list_all}
use Rattle.std.proofs.lemmas.Bool.Decides.{nat_tests}
use Rattle.fuse_wire.specs.declared.request.Request.{Request}
use Rattle.fuse_wire.specs.declared.item.Item.{Item}
use Rattle.fuse_wire.specs.Request.{is_ask, nodes, item_of}
use Rattle.broker_core.specs.Held.{held_count}
use Rattle.broker_core.specs.Broker.{BrokerState, last_generation, last_unique, mount_fault, may_be_asked, is_bad_forget, ask_fault, forget_fault, issue_fault}
use Rattle.broker_core.specs.declared.seat.Seat.{Seat}
use Rattle.broker_core.specs.declared.broker.MountFault.TheVariants.{Seated, LastGeneration}
use Rattle.broker_core.specs.declared.broker.IssueFault.TheVariants.{NotMounted, NotHeld, BadForget, Full}

-- a test whose failure would be a fault
passed : {F : Type 0} (b : Bool) (fault : F) (rest : Option F) → (if b then Some fault else rest) ≡ None → (b ≡ false) × (rest ≡ None)
passed true fault rest h = absurd (let none : ⊥ = cc in none)
passed false fault rest h = (refl, h)

pub free_to_mount : (broker : BrokerState) → mount_fault broker ≡ None → (broker.seat ≡ None) × (broker.last < last_generation)
free_to_mount broker h =
    let seat = passed (is_some broker.seat) Seated _ h in
    let last = passed (nat_le last_generation broker.last) LastGeneration None seat.1 in
    (no_seat broker.seat seat.0, grind (arith, nat_tests, last.0)) where
      no_seat : (seat : Option Seat) → is_some seat ≡ false → seat ≡ None
      no_seat None e = refl
      no_seat (Some seat) e = absurd (let none : ⊥ = cc in none)

pub accepted-seated : (broker : BrokerState) (request : Request) → issue_fault broker request ≡ None → is_some broker.seat ≡ true
accepted-seated broker request h = seated broker.seat (passed (is_none broker.seat) NotMounted _ h).0 where
  seated : (seat : Option Seat) → is_none seat ≡ false → is_some seat ≡ true
  seated None e = absurd (let none : ⊥ = cc in none)
  seated (Some seat) e = refl

pub accepted-ask : (broker : BrokerState) (request : Request) → issue_fault broker request ≡ None → is_ask request ≡ true → (list_all (may_be_asked broker) (nodes request) ≡ true) × (broker.next_unique ≤ last_unique)
accepted-ask broker request h ask =
    let fault : ask_fault broker request ≡ None = asked (is_ask request) ask (passed (is_none broker.seat) NotMounted _ h).1 in
    let asked_of = passed (not (list_all (may_be_asked broker) (nodes request))) NotHeld _ fault in
    let full = passed (nat_lt last_unique broker.next_unique) Full _ asked_of.1 in
    (held (list_all (may_be_asked broker) (nodes request)) asked_of.0, grind (arith, nat_tests, full.0)) where
      asked : (b : Bool) → b ≡ true → cond b (ask_fault broker request) (forget_fault broker (item_of request)) ≡ None → ask_fault broker request ≡ None
      asked b e g = rw e at g

      held : (b : Bool) → not b ≡ false → b ≡ true
      held true e = refl
      held false e = absurd (let none : ⊥ = cc in none)

-- an item that is accepted
pub record IsGoodItem (broker : BrokerState) (item : Item) : Type 0 where
  pub not_root : item.node.0 ≢ 1
  pub some : 1 ≤ item.k
  pub held : item.k ≤ held_count broker.held item.node.0

pub good-item : (broker : BrokerState) (item : Item) → forget_fault broker (Some item) ≡ None → IsGoodItem broker item
good-item broker item none = record {
  not_root = λ root. grind (arith, nat_tests, good.0);
  some = grind (arith, nat_tests, good.1);
  held = grind (arith, nat_tests, good.2);
} where
  parts : (a b c : Bool) → (a || b || c) ≡ false → (a ≡ false) × (b ≡ false) × (c ≡ false)
  parts true b c e = absurd (let none : ⊥ = cc in none)
  parts false true c e = absurd (let none : ⊥ = cc in none)
  parts false false c e = (refl, refl, e)

  good : ((item.node.0 == 1) ≡ false) × ((item.k == 0) ≡ false) × (nat_lt (held_count broker.held item.node.0) item.k ≡ false)
  good = parts (item.node.0 == 1) (item.k == 0) (nat_lt (held_count broker.held item.node.0) item.k) (passed (is_bad_forget broker item) BadForget _ none).0

-- the item of a forget that is accepted
pub record IsAcceptedItem (broker : BrokerState) (request : Request) (item : Item) : Type 0 where
  pub is : item_of request ≡ Some item
  pub not_root : item.node.0 ≢ 1
  pub some : 1 ≤ item.k
  pub held : item.k ≤ held_count broker.held item.node.0

pub accepted-forget : (broker : BrokerState) (request : Request) → issue_fault broker request ≡ None → is_ask request ≡ false → (item : Item) × IsAcceptedItem broker request item
accepted-forget broker request h ask = of_item (item_of request) refl (forgot (is_ask request) ask (passed (is_none broker.seat) NotMounted _ h).1) where
  forgot : (b : Bool) → b ≡ false → cond b (ask_fault broker request) (forget_fault broker (item_of request)) ≡ None → forget_fault broker (item_of request) ≡ None
  forgot b e g = rw e at g

  of_item : (o : Option Item) → item_of request ≡ o → forget_fault broker o ≡ None → (item : Item) × IsAcceptedItem broker request item
  of_item None is g = absurd (let none : ⊥ = cc in none)
  of_item (Some item) is g =
      let good = good-item broker item g in
      (item, record { is = is; not_root = good.not_root; some = good.some; held = good.held })
