-- What a take hands out leaves the queue that it waited in, and no other.
use Rattle.std.proofs.Common.{◌≡◌, Bool, true, false, List, [], ◌∷◌, ◌++◌, Some, refl, sym, ap, ◌∙◌, if◌then◌else◌, inl, inr, ◌⊎◌, map, take, drop}
use Rattle.std.specs.Option.{option_map}
use Rattle.std.proofs.lemmas.List.{take-append-drop}
use Rattle.fuse_wire.specs.Request.{is_ask, items_of}
use Rattle.fuse_wire.specs.declared.request.Ask.{Ask}
use Rattle.fuse_wire.specs.declared.request.Request.TheVariants.{Forget, BatchForget}
use Rattle.fuse_wire.specs.declared.item.Item.{Item}
use Rattle.broker_core.specs.Traffic.{TrafficState, front, asked_of, forget_of, without_unique, items_go_first, next_taken, left_by_take, ask_taken}

-- the first untaken ask is taken
pub record IsAskTaken (traffic : TrafficState) (ask : Ask) (left : TrafficState) : Type 0 where
  pub was : traffic.untaken ≡ ask ∷ left.untaken
  pub taken : left.taken ≡ traffic.taken ++ asked_of ask ∷ []
  pub items : left.items ≡ traffic.items
  pub posted : left.posted ≡ traffic.posted

-- the first items are taken as one request
pub record AreItemsTaken (traffic : TrafficState) (ask : Ask) (left : TrafficState) : Type 0 where
  pub no_ask : is_ask ask.what ≡ false
  pub was : items_of ask.what ++ left.items ≡ traffic.items
  pub untaken : left.untaken ≡ traffic.untaken
  pub taken : left.taken ≡ traffic.taken
  pub posted : left.posted ≡ traffic.posted

-- a request of items has them, and is no ask
forget-items : (items : List Item) (ask : Ask) → option_map without_unique (forget_of items) ≡ Some ask → (is_ask ask.what ≡ false) × (items_of ask.what ≡ items)
forget-items [] ask e = absurd (let none : ⊥ = cc in none)
forget-items (one ∷ []) ask e = let same : without_unique (Forget one) ≡ ask = cc in (ap (λ (a : Ask). is_ask a.what) (sym same), ap (λ (a : Ask). items_of a.what) (sym same))
forget-items (one ∷ two ∷ more) ask e = let same : without_unique (BatchForget (one ∷ two ∷ more)) ≡ ask = cc in (ap (λ (a : Ask). is_ask a.what) (sym same), ap (λ (a : Ask). items_of a.what) (sym same))

ask_in : (traffic : TrafficState) (ask : Ask) (untaken : List Ask) → traffic.untaken ≡ untaken → front untaken ≡ Some ask → traffic.untaken ≡ ask ∷ drop 1 traffic.untaken
ask_in traffic ask [] e f = absurd (let none : ⊥ = cc in none)
ask_in traffic ask (one ∷ more) e f = let same : one ≡ ask = cc in e ∙ ap (λ (a : Ask). a ∷ more) same ∙ ap (λ (us : List Ask). ask ∷ drop 1 us) (sym e)

-- A take is of the first ask, or of the first items.
pub take-is : (traffic : TrafficState) (ask : Ask) → next_taken traffic ≡ Some ask → IsAskTaken traffic ask (left_by_take traffic) ⊎ AreItemsTaken traffic ask (left_by_take traffic)
take-is traffic ask = in_ (items_go_first traffic) where
  in_ : (b : Bool) → (if b then option_map without_unique (forget_of (take 256 traffic.items)) else front traffic.untaken) ≡ Some ask →
      IsAskTaken traffic ask (if b then record traffic { items = drop 256 traffic.items } else ask_taken traffic) ⊎ AreItemsTaken traffic ask (if b then record traffic { items = drop 256 traffic.items } else ask_taken traffic)
  in_ true e = let r = forget-items (take 256 traffic.items) ask e in inr (record {
    no_ask = r.0;
    was = ap (λ (is : List Item). is ++ drop 256 traffic.items) r.1 ∙ take-append-drop 256 traffic.items;
    untaken = refl;
    taken = refl;
    posted = refl;
  })
  in_ false e =
      let was = ask_in traffic ask traffic.untaken refl e in
      inl (record { was = was; taken = ap (λ (us : List Ask). traffic.taken ++ map asked_of (take 1 us)) was; items = refl; posted = refl })
