-- The asks at places whose uniques rise: their order, how they are found, and what is left where one is answered.
use Rattle.std.proofs.Common.{◌≡◌, ℕ, ◌+◌, ◌≤◌, suc, Bool, true, false, cond, List, [], ◌∷◌, ◌++◌, get_or, set, length, Option, Some, None, refl, sym, ap, ◌∙◌, subst, arith}
use Rattle.std.specs.Prelude.{◌==◌}
use Rattle.std.specs.List.{AllByRecursion, cons_option, last_or}
use Rattle.std.specs.List.Sorted.{IsStrictlySortedBy}
use Rattle.std.specs.Map.{keys_of}
use Rattle.std.specs.Option.{option_map, option_and_then, is_some, IfSome}
use Rattle.std.specs.Ordering.{nat_cmp}
use Rattle.std.specs.declared.cmp.Ordering.TheVariants.{Less}
use Rattle.std.proofs.lemmas.Bool.Decides.{nat_tests}
use Rattle.eden_base.specs.First.{first_where, changed_where, without_where, IsFirstPlace}
use Rattle.eden_base.proofs.FirstLemmas.{without_where-none}
use Rattle.broker_core.specs.Traffic.{is_of}
use Rattle.broker_core.specs.Rising.{IsRising}
use Rattle.broker_core.specs.Places.{ask_at, asks_at, is_place_of, is_filled, PlacesRise, StartsFilled, EndsFilled}
use Rattle.broker_core.specs.declared.unanswered.QueuePlace.{QueuePlace}
use Rattle.fuse_wire.specs.declared.form.Form.{Form}
use Rattle.broker_core.proofs.AskedLaws.{Asked}
use Rattle.broker_core.proofs.RisingLaws.{uniques, less, place_of}

-- the asks at a place that has this form, or none, and at those behind it
abbrev asks_from : QueuePlace → Option Form → List QueuePlace → List Asked
asks_from p o ps = cons_option (option_map (λ f. (p.unique, f)) o) (asks_at ps)

above-asks : (n : ℕ) (ps : List QueuePlace) → AllByRecursion (λ m. nat_cmp n m ≡ Less) (uniques ps) → AllByRecursion (λ m. nat_cmp n m ≡ Less) (keys_of (asks_at ps))
above-asks n [] above = tt
above-asks n (p ∷ ps) above = here (p.form) (above-asks n ps above.1) where
  here : (o : Option Form) → AllByRecursion (λ m. nat_cmp n m ≡ Less) (keys_of (asks_at ps)) → AllByRecursion (λ m. nat_cmp n m ≡ Less) (keys_of (asks_from p o ps))
  here None rest = rest
  here (Some f) rest = (above.0, rest)

-- where places rise, their asks do
pub rising-asks : (ps : List QueuePlace) → PlacesRise ps → IsRising (asks_at ps)
unfolding IsStrictlySortedBy
rising-asks [] rising = tt
rising-asks (p ∷ ps) rising = here (p.form) (rising-asks ps rising.1) where
  here : (o : Option Form) → IsRising (asks_at ps) → IsRising (asks_from p o ps)
  here None rest = rest
  here (Some f) rest = (above-asks p.unique ps rising.0, rest)

-- no more asks than places
pub asks-fewer : (ps : List QueuePlace) → length (asks_at ps) ≤ length ps
asks-fewer [] = omega arith
asks-fewer (p ∷ ps) = here (p.form) (asks-fewer ps) where
  here : (o : Option Form) → length (asks_at ps) ≤ length ps → length (asks_from p o ps) ≤ suc (length ps)
  here None rest = omega arith
  here (Some f) rest = omega arith

-- an ask's place behind the others
pub asks-push : (ps : List QueuePlace) (k : ℕ) (f : Form) → asks_at (ps ++ place_of k f ∷ []) ≡ asks_at ps ++ (k, f) ∷ []
asks-push [] k f = refl
asks-push (p ∷ ps) k f = here (p.form) (asks-push ps k f) where
  here : (o : Option Form) → asks_at (ps ++ place_of k f ∷ []) ≡ asks_at ps ++ (k, f) ∷ [] → asks_from p o (ps ++ place_of k f ∷ []) ≡ asks_from p o ps ++ (k, f) ∷ []
  here None rest = rest
  here (Some g) rest = ap (λ (xs : List Asked). (p.unique, g) ∷ xs) rest

pub starts-push : (ps : List QueuePlace) (k : ℕ) (f : Form) → StartsFilled ps → StartsFilled (ps ++ place_of k f ∷ [])
starts-push [] k f first = refl
starts-push (p ∷ ps) k f first = first

ends-push-behind : (o : Option QueuePlace) (ps : List QueuePlace) (k : ℕ) (f : Form) → IfSome (last_or o (ps ++ place_of k f ∷ [])) (λ p. is_filled p ≡ true)
ends-push-behind o [] k f = refl
ends-push-behind o (p ∷ ps) k f = ends-push-behind (Some p) ps k f

pub ends-push : (ps : List QueuePlace) (k : ℕ) (f : Form) → EndsFilled (ps ++ place_of k f ∷ [])
ends-push ps k f = ends-push-behind None ps k f

module _ (k : ℕ) where
  no-later : (n : ℕ) (ps : List QueuePlace) → k ≡ n → AllByRecursion (λ m. nat_cmp n m ≡ Less) (uniques ps) → first_where (is_of k) (asks_at ps) ≡ None
  no-later n [] same above = refl
  no-later n (p ∷ ps) same above = here (p.form) (no-later n ps same above.1) where
    here : (o : Option Form) → first_where (is_of k) (asks_at ps) ≡ None → first_where (is_of k) (asks_from p o ps) ≡ None
    here None rest = rest
    here (Some f) rest = let low = less n p.unique above.0 in let other : (k == p.unique) ≡ false = grind (arith, nat_tests) in rw other rest

  same : (n : ℕ) → (k == n) ≡ true → k ≡ n
  same n e = grind (arith, nat_tests)

  -- the ask with a unique stands at the first place with it
  pub asked-at : (ps : List QueuePlace) → PlacesRise ps → first_where (is_of k) (asks_at ps) ≡ option_and_then ask_at (first_where (is_place_of k) ps)
  unfolding IsStrictlySortedBy
  asked-at [] rising = refl
  asked-at (p ∷ ps) rising = here (k == p.unique) (p.form) refl (asked-at ps rising.1) where
    here : (b : Bool) (o : Option Form) → (k == p.unique) ≡ b →
        first_where (is_of k) (asks_at ps) ≡ option_and_then ask_at (first_where (is_place_of k) ps) →
        first_where (is_of k) (asks_from p o ps) ≡ option_and_then (λ (q : QueuePlace). ask_at q) (cond b (Some (record { unique = p.unique; form = o })) (first_where (is_place_of k) ps))
    here true None e rest = no-later p.unique ps (same p.unique e) rising.0
    here true (Some f) e rest = rw e refl
    here false None e rest = rest
    here false (Some f) e rest = rw e rest

-- with no place there is no ask
pub none-asked : (k : ℕ) (ps : List QueuePlace) → PlacesRise ps → first_where (is_place_of k) ps ≡ None → first_where (is_of k) (asks_at ps) ≡ None
none-asked k ps rising none = asked-at k ps rising ∙ ap (option_and_then ask_at) none

-- the first place has the form of the ask
pub form-at : (k : ℕ) (ps : List QueuePlace) (i : ℕ) (d : QueuePlace) → PlacesRise ps → IsFirstPlace (is_place_of k) ps i →
    option_map (λ (asked : Asked). asked.1) (first_where (is_of k) (asks_at ps)) ≡ (get_or ps i d).form
form-at k ps i d rising first =
    ap (option_map (λ (asked : Asked). asked.1)) (asked-at k ps rising ∙ ap (option_and_then ask_at) (first.value d)) ∙ here (get_or ps i d).unique (get_or ps i d).form where
      here : (n : ℕ) (o : Option Form) → option_map (λ (asked : Asked). asked.1) (option_map (λ f. (n, f)) o) ≡ o
      here n None = refl
      here n (Some f) = refl

-- a gap has no ask
pub gap-asked : (k : ℕ) (ps : List QueuePlace) (i : ℕ) (d : QueuePlace) → PlacesRise ps → IsFirstPlace (is_place_of k) ps i → is_filled (get_or ps i d) ≡ false →
    first_where (is_of k) (asks_at ps) ≡ None
gap-asked k ps i d rising first gap = asked-at k ps rising ∙ ap (option_and_then ask_at) (first.value d) ∙ here (get_or ps i d).unique (get_or ps i d).form gap where
  here : (n : ℕ) (o : Option Form) → is_some o ≡ false → option_map {U = Asked} (λ f. (n, f)) o ≡ None
  here n None gap = refl
  here n (Some f) gap = absurd (let none : ⊥ = cc in none)

-- the gap that the ask of a unique leaves
abbrev pub gap_of : ℕ → QueuePlace
gap_of k = record { unique = k; form = None }

-- a place without its ask
abbrev pub emptied : QueuePlace → QueuePlace
emptied p = gap_of p.unique

module _ (k : ℕ) where
  -- where the place with a unique is emptied, uniques stay
  pub uniques-emptied : (ps : List QueuePlace) → uniques (changed_where (is_place_of k) emptied ps) ≡ uniques ps
  uniques-emptied [] = refl
  uniques-emptied (p ∷ ps) = here (k == p.unique) (uniques-emptied ps) where
    here : (b : Bool) → uniques (changed_where (is_place_of k) emptied ps) ≡ uniques ps → uniques (cond b (emptied p ∷ ps) (p ∷ changed_where (is_place_of k) emptied ps)) ≡ uniques (p ∷ ps)
    here true rest = refl
    here false rest = ap (λ (ns : List ℕ). p.unique ∷ ns) rest

  -- where the place with a unique is emptied, its ask is gone
  pub asks-emptied : (ps : List QueuePlace) → PlacesRise ps → asks_at (changed_where (is_place_of k) emptied ps) ≡ without_where (is_of k) (asks_at ps)
  unfolding IsStrictlySortedBy
  asks-emptied [] rising = refl
  asks-emptied (p ∷ ps) rising = here (k == p.unique) (p.form) refl (asks-emptied ps rising.1) where
    here : (b : Bool) (o : Option Form) → (k == p.unique) ≡ b → asks_at (changed_where (is_place_of k) emptied ps) ≡ without_where (is_of k) (asks_at ps) →
        asks_at (cond b (emptied p ∷ ps) (record { unique = p.unique; form = o } ∷ changed_where (is_place_of k) emptied ps)) ≡ without_where (is_of k) (asks_from p o ps)
    here true None e rest = sym (without_where-none (is_of k) (asks_at ps) (no-later k p.unique ps (same k p.unique e) rising.0))
    here true (Some f) e rest = rw e refl
    here false None e rest = rest
    here false (Some f) e rest = rw e (ap (λ (xs : List Asked). (p.unique, f) ∷ xs) rest)

  -- where an ask's place is emptied, one ask fewer is left
  pub fewer-emptied : (ps : List QueuePlace) (q : QueuePlace) → first_where (is_place_of k) ps ≡ Some q → is_filled q ≡ true → length (asks_at (changed_where (is_place_of k) emptied ps)) + 1 ≡ length (asks_at ps)
  fewer-emptied [] q found filled = absurd (let none : ⊥ = cc in none)
  fewer-emptied (p ∷ ps) q found filled = here (k == p.unique) (p.form) found (λ found'. fewer-emptied ps q found' filled) where
    here : (b : Bool) (o : Option Form) → cond b (Some (record { unique = p.unique; form = o })) (first_where (is_place_of k) ps) ≡ Some q →
        (first_where (is_place_of k) ps ≡ Some q → length (asks_at (changed_where (is_place_of k) emptied ps)) + 1 ≡ length (asks_at ps)) →
        length (asks_at (cond b (emptied p ∷ ps) (record { unique = p.unique; form = o } ∷ changed_where (is_place_of k) emptied ps))) + 1 ≡ length (asks_from p o ps)
    here true None found rest = absurd (let none : ⊥ = cc in none)
    here true (Some f) found rest = omega arith
    here false None found rest = rest found
    here false (Some f) found rest = let less' = rest found in omega arith

-- what is left where the ask of a unique is answered
pub record IsAnswered (k : ℕ) (old new : List QueuePlace) : Type 0 where
  pub asks : asks_at new ≡ without_where (is_of k) (asks_at old)
  pub rising : PlacesRise new
  pub fewer : length (asks_at new) + 1 ≡ length (asks_at old)

-- an ask's place that is read, and then emptied
pub emptied-at : (k : ℕ) (ps : List QueuePlace) (i : ℕ) (p q : QueuePlace) → PlacesRise ps → IsFirstPlace (is_place_of k) ps i → p ≡ get_or ps i p → is_filled p ≡ true →
    q ≡ get_or ps i q → IsAnswered k ps (set ps i (gap_of q.unique))
emptied-at k ps i p q rising first read filled again =
    let is : changed_where (is_place_of k) emptied ps ≡ set ps i (gap_of q.unique) = first.change emptied q ∙ ap (λ (r : QueuePlace). set ps i (emptied r)) (sym again) in
    let found : first_where (is_place_of k) ps ≡ Some p = first.value p ∙ ap Some (sym read) in
    subst (IsAnswered k ps) is (record {
      asks = asks-emptied k ps rising;
      rising = subst (IsStrictlySortedBy nat_cmp) (sym (uniques-emptied k ps)) rising;
      fewer = fewer-emptied k ps p found filled;
    })
