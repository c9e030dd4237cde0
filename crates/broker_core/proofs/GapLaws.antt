-- Where gaps are dropped from places: the same asks are left, in order.
use Rattle.std.proofs.Common.{◌≡◌, ℕ, ◌+◌, ◌-◌, true, false, Bool, cond, List, [], ◌∷◌, ◌++◌, get_or, length, take, drop, Option, Some, None, refl, sym, ap, ◌∙◌, subst, arith}
use Rattle.std.proofs.lemmas.List.{take_all, take_more}
use Rattle.std.specs.List.{AllByRecursion, cons_option, filter, last_or}
use Rattle.std.specs.List.Sorted.{IsStrictlySortedBy}
use Rattle.std.specs.Option.{option_map, is_some, IfSome}
use Rattle.std.specs.Ordering.{nat_cmp}
use Rattle.std.specs.declared.cmp.Ordering.TheVariants.{Less}
use Rattle.broker_core.specs.Places.{ask_at, asks_at, is_filled, PlacesRise, StartsFilled, EndsFilled, DropsGaps}
use Rattle.broker_core.specs.declared.unanswered.QueuePlace.{QueuePlace}
use Rattle.fuse_wire.specs.declared.form.Form.{Form}
use Rattle.broker_core.proofs.AskedLaws.{Asked}
use Rattle.broker_core.proofs.RisingLaws.{uniques}

-- no gap is dropped, or some and then others
pub drops-none : (ps : List QueuePlace) → DropsGaps ps ps
drops-none ps = record { asks = refl; rising = λ rising. rising; first = λ first. first }

pub drops-more : (ps qs rs : List QueuePlace) → DropsGaps ps qs → DropsGaps qs rs → DropsGaps ps rs
drops-more ps qs rs some others = record {
  asks = others.asks ∙ some.asks;
  rising = λ rising. others.rising (some.rising rising);
  first = λ first. others.first (some.first first);
}

module _ (p : QueuePlace) (gap : is_filled p ≡ false) where
  empty : (o : Option Form) → is_some o ≡ false → o ≡ None
  empty None e = refl
  empty (Some f) e = absurd (let none : ⊥ = cc in none)

  -- a gap is dropped from the front
  pub drops-first : (ps : List QueuePlace) → DropsGaps (p ∷ ps) ps
  unfolding IsStrictlySortedBy
  drops-first ps = record {
    asks = sym (let none = empty p.form gap in rw none refl);
    rising = λ rising. rising.1;
    first = λ first. absurd (let none : ⊥ = cc in none);
  }

  asks-before : (ps : List QueuePlace) → asks_at ps ≡ asks_at (ps ++ p ∷ [])
  asks-before [] = let none = empty p.form gap in rw none refl
  asks-before (q ∷ ps) = ap (cons_option (ask_at q)) (asks-before ps)

  above-before : (n : ℕ) (ps : List QueuePlace) → AllByRecursion (λ m. nat_cmp n m ≡ Less) (uniques (ps ++ p ∷ [])) → AllByRecursion (λ m. nat_cmp n m ≡ Less) (uniques ps)
  above-before n [] above = tt
  above-before n (q ∷ ps) above = (above.0, above-before n ps above.1)

  rising-before : (ps : List QueuePlace) → PlacesRise (ps ++ p ∷ []) → PlacesRise ps
  unfolding IsStrictlySortedBy
  rising-before [] rising = tt
  rising-before (q ∷ ps) rising = (above-before q.unique ps rising.0, rising-before ps rising.1)

  first-before : (ps : List QueuePlace) → StartsFilled (ps ++ p ∷ []) → StartsFilled ps
  first-before [] first = tt
  first-before (q ∷ ps) first = first

  -- a gap is dropped from the back
  pub drops-last : (ps : List QueuePlace) → DropsGaps (ps ++ p ∷ []) ps
  drops-last ps = record { asks = asks-before ps; rising = rising-before ps; first = first-before ps }

asks-filled : (ps : List QueuePlace) → asks_at (filter is_filled ps) ≡ asks_at ps
asks-filled [] = refl
asks-filled (p ∷ ps) = here (p.form) (asks-filled ps) where
  here : (o : Option Form) → asks_at (filter is_filled ps) ≡ asks_at ps → asks_at (cond (is_some o) (record { unique = p.unique; form = o } ∷ filter is_filled ps) (filter is_filled ps)) ≡ cons_option (option_map (λ f. (p.unique, f)) o) (asks_at ps)
  here None rest = rest
  here (Some f) rest = ap (λ (xs : List Asked). (p.unique, f) ∷ xs) rest

above-filled : (n : ℕ) (ps : List QueuePlace) → AllByRecursion (λ m. nat_cmp n m ≡ Less) (uniques ps) → AllByRecursion (λ m. nat_cmp n m ≡ Less) (uniques (filter is_filled ps))
above-filled n [] above = tt
above-filled n (p ∷ ps) above = here (is_filled p) (above-filled n ps above.1) where
  here : (b : Bool) → AllByRecursion (λ m. nat_cmp n m ≡ Less) (uniques (filter is_filled ps)) → AllByRecursion (λ m. nat_cmp n m ≡ Less) (uniques (cond b (p ∷ filter is_filled ps) (filter is_filled ps)))
  here true rest = (above.0, rest)
  here false rest = rest

rising-filled : (ps : List QueuePlace) → PlacesRise ps → PlacesRise (filter is_filled ps)
unfolding IsStrictlySortedBy
rising-filled [] rising = tt
rising-filled (p ∷ ps) rising = here (is_filled p) (rising-filled ps rising.1) where
  here : (b : Bool) → PlacesRise (filter is_filled ps) → PlacesRise (cond b (p ∷ filter is_filled ps) (filter is_filled ps))
  here true rest = (above-filled p.unique ps rising.0, rest)
  here false rest = rest

-- where no gap is left, none is first or last
pub starts-filled : (ps : List QueuePlace) → StartsFilled (filter is_filled ps)
starts-filled [] = tt
starts-filled (p ∷ ps) = here (is_filled p) refl (starts-filled ps) where
  here : (b : Bool) → is_filled p ≡ b → StartsFilled (filter is_filled ps) → StartsFilled (cond b (p ∷ filter is_filled ps) (filter is_filled ps))
  here true e rest = e
  here false e rest = rest

ends-behind : (o : Option QueuePlace) (ps : List QueuePlace) → IfSome o (λ q. is_filled q ≡ true) → IfSome (last_or o (filter is_filled ps)) (λ q. is_filled q ≡ true)
ends-behind o [] last = last
ends-behind o (p ∷ ps) last = here (is_filled p) refl (λ filled. ends-behind (Some p) ps filled) (ends-behind o ps last) where
  here : (b : Bool) → is_filled p ≡ b → (is_filled p ≡ true → IfSome (last_or (Some p) (filter is_filled ps)) (λ q. is_filled q ≡ true)) →
      IfSome (last_or o (filter is_filled ps)) (λ q. is_filled q ≡ true) → IfSome (last_or o (cond b (p ∷ filter is_filled ps) (filter is_filled ps))) (λ q. is_filled q ≡ true)
  here true e here' rest = here' e
  here false e here' rest = rest

pub ends-filled : (ps : List QueuePlace) → EndsFilled (filter is_filled ps)
ends-filled ps = ends-behind None ps tt

-- each gap is dropped
pub drops-all : (ps : List QueuePlace) → DropsGaps ps (filter is_filled ps)
drops-all ps = record { asks = asks-filled ps; rising = rising-filled ps; first = λ first. starts-filled ps }

-- a gap that stands first is dropped
pub drops-front : (ps : List QueuePlace) (p : QueuePlace) → p ≡ get_or ps 0 p → is_filled p ≡ false → DropsGaps ps (drop 1 ps)
drops-front [] p e gap = drops-none []
drops-front (q ∷ ps) p e gap = drops-first q (subst (λ (r : QueuePlace). is_filled r ≡ false) e gap) ps

-- a gap that stands last is dropped
pub drops-back : (ps : List QueuePlace) (n : ℕ) (p : QueuePlace) → n ≡ length ps → p ≡ get_or ps (n - 1) p → is_filled p ≡ false → DropsGaps ps (take (n - 1) ps)
drops-back [] n p long e gap = let same : take {A = QueuePlace} (n - 1) [] ≡ [] = take_all (n - 1) [] (omega arith) in subst (λ (rs : List QueuePlace). DropsGaps [] rs) (sym same) (drops-none [])
drops-back (q ∷ ps) n p long e gap =
    let all : take (n - 1 + 1) (q ∷ ps) ≡ q ∷ ps = take_all (n - 1 + 1) (q ∷ ps) (omega arith) in
    let whole : q ∷ ps ≡ take (n - 1) (q ∷ ps) ++ p ∷ [] = sym all ∙ take_more (q ∷ ps) (n - 1) p (omega arith) ∙ ap (λ (r : QueuePlace). take (n - 1) (q ∷ ps) ++ r ∷ []) (sym e) in
    subst (λ (rs : List QueuePlace). DropsGaps rs (take (n - 1) (q ∷ ps))) (sym whole) (drops-last p gap (take (n - 1) (q ∷ ps)))

-- the last place is no gap
ends-at : (p q : QueuePlace) (ps : List QueuePlace) → p ≡ get_or (q ∷ ps) (length ps) p → is_filled p ≡ true → EndsFilled (q ∷ ps)
ends-at p q [] e filled = subst (λ (r : QueuePlace). is_filled r ≡ true) e filled
ends-at p q (r ∷ ps) e filled = ends-at p r ps e filled

pub ends-here : (ps : List QueuePlace) (n : ℕ) (p : QueuePlace) → n ≡ length ps → p ≡ get_or ps (n - 1) p → is_filled p ≡ true → EndsFilled ps
ends-here [] n p long e filled = tt
ends-here (q ∷ ps) n p long e filled = let back : n - 1 ≡ length ps = omega arith in ends-at p q ps (subst (λ (i : ℕ). p ≡ get_or (q ∷ ps) i p) back e) filled
