-- The places of the asks without a reply, whose uniques rise: what is added to them, and what is found among them.
use Rattle.std.proofs.Common.{◌≡◌, ℕ, ◌<◌, ◌≤◌, false, true, List, [], ◌∷◌, ◌++◌, get_or, length, map, Err, Option, None, Some, ap, inl, inr, arith}
use Rattle.std.specs.Prelude.{◌==◌, All}
use Rattle.std.specs.List.{AllByRecursion, cons_option}
use Rattle.std.specs.List.Sorted.{IsBinarySearchResult, IsNonDecreasingBy, IsStrictlySortedBy}
use Rattle.std.specs.Option.{option_map, is_some}
use Rattle.std.specs.Ordering.{nat_cmp, ordering_index}
use Rattle.std.specs.declared.cmp.Ordering.TheVariants.{Equal, Greater, Less}
use Rattle.std.proofs.Math.ListN.{get_or-map}
use Rattle.std.proofs.lemmas.Bool.{cases_order}
use Rattle.std.proofs.lemmas.Bool.Decides.{nat_tests}
use Rattle.std.proofs.lemmas.List.{length-map}
use Rattle.std.proofs.lemmas.List.Elements.{All-head, All-tail}
use Rattle.std.proofs.lemmas.Map.Keys.{below_from_sorted}
use Rattle.eden_base.specs.First.{first_where, IsFirstPlace}
use Rattle.eden_base.proofs.FirstLemmas.{IsFirstPlace-here, first_where-nowhere}
use Rattle.broker_core.specs.Places.{asks_at, is_place_of, PlacesRise, EndsFilled}
use Rattle.broker_core.specs.declared.unanswered.QueuePlace.{QueuePlace}
use Rattle.fuse_wire.specs.declared.form.Form.{Form}
use Rattle.broker_core.proofs.AskedLaws.{Below}

-- the uniques of the places
abbrev pub uniques : List QueuePlace → List ℕ
uniques ps = map (λ (p : QueuePlace). p.unique) ps

-- the place of an ask
abbrev pub place_of : ℕ → Form → QueuePlace
place_of k f = record { unique = k; form = Some f }

lesser : (n m : ℕ) → n < m → nat_cmp n m ≡ Less
lesser n m low = grind (arith, nat_tests)

pub less : (n m : ℕ) → nat_cmp n m ≡ Less → n < m
less n m is = grind (arith, nat_tests)

at-end : (n : ℕ) (ps : List QueuePlace) (q : QueuePlace) → AllByRecursion (λ m. nat_cmp n m ≡ Less) (uniques ps) → n < q.unique →
    AllByRecursion (λ m. nat_cmp n m ≡ Less) (uniques (ps ++ q ∷ []))
at-end n [] q above low = (lesser n q.unique low, tt)
at-end n (p ∷ ps) q above low = (above.0, at-end n ps q above.1 low)

module _ (k : ℕ) where
  behind : (p : QueuePlace) (ps : List QueuePlace) → All (Below k) (asks_at (p ∷ ps)) → All (Below k) (asks_at ps)
  behind p ps all = here (p.form) all where
    here : (o : Option Form) → All (Below k) (cons_option (option_map (λ f. (p.unique, f)) o) (asks_at ps)) → All (Below k) (asks_at ps)
    here None all = all
    here (Some f) all = All-tail (Below k) (p.unique, f) (asks_at ps) all

  below : (p : QueuePlace) (ps : List QueuePlace) → PlacesRise (p ∷ ps) → EndsFilled (p ∷ ps) → All (Below k) (asks_at (p ∷ ps)) → p.unique < k
  unfolding IsStrictlySortedBy
  below p [] rising last all = here (p.form) last all where
    here : (o : Option Form) → is_some o ≡ true → All (Below k) (cons_option (option_map (λ f. (p.unique, f)) o) []) → p.unique < k
    here None last all = absurd (let none : ⊥ = cc in none)
    here (Some f) last all = All-head (Below k) (p.unique, f) [] all
  below p (q ∷ ps) rising last all =
      let next = below q ps rising.1 last (behind p (q ∷ ps) all) in
      let low = less p.unique q.unique rising.0.0 in
      omega arith

  -- places rise on with that of an ask above all others
  pub rising-push : (f : Form) (ps : List QueuePlace) → PlacesRise ps → EndsFilled ps → All (Below k) (asks_at ps) → PlacesRise (ps ++ place_of k f ∷ [])
  unfolding IsStrictlySortedBy
  rising-push f [] rising last all = (tt, tt)
  rising-push f (p ∷ []) rising last all = (at-end p.unique [] (place_of k f) rising.0 (below p [] rising last all), (tt, tt))
  rising-push f (p ∷ q ∷ ps) rising last all =
      (at-end p.unique (q ∷ ps) (place_of k f) rising.0 (below p (q ∷ ps) rising last all), rising-push f (q ∷ ps) rising.1 last (behind p (q ∷ ps) all))

-- no place is in order
pub rising-none : PlacesRise []
unfolding IsStrictlySortedBy
rising-none = tt

-- the unique at an index
abbrev pub unique_at : List QueuePlace → ℕ → QueuePlace → ℕ
unique_at ps i d = (get_or ps i d).unique

uniques-rise : (ps : List QueuePlace) (i j : ℕ) (d : QueuePlace) → PlacesRise ps → i < j → j < length ps → unique_at ps i d < unique_at ps j d
uniques-rise ps i j d rising before within =
    let long = length-map ps (λ (p : QueuePlace). p.unique) in
    let less = below_from_sorted (uniques ps) i j d.unique rising before (omega (arith, long, within)) in
    let at_i = get_or-map (λ (p : QueuePlace). p.unique) ps i d in
    let at_j = get_or-map (λ (p : QueuePlace). p.unique) ps j d in
    omega (arith, less, at_i, at_j)

module _ (k : ℕ) where
  same-unique : (n : ℕ) → n ≡ k → (k == n) ≡ true
  same-unique n e = grind (arith, nat_tests)

  other-unique : (n : ℕ) → (n ≡ k → ⊥) → (k == n) ≡ false
  other-unique n e = grind (arith, nat_tests)

  -- a place with the unique is the first one with it
  pub first-here : (ps : List QueuePlace) (i : ℕ) (d : QueuePlace) → PlacesRise ps → i < length ps → unique_at ps i d ≡ k → IsFirstPlace (is_place_of k) ps i
  first-here ps i d rising within here =
      IsFirstPlace-here (is_place_of k) ps i d within
      (λ j before. other-unique (unique_at ps j d) (λ same. let less = uniques-rise ps j i d rising before within in omega (arith, less, here, same)))
      (same-unique (unique_at ps i d) here)

  -- a place at which a search by halving ends is the first one with the unique
  pub first-found : (ps : List QueuePlace) (i : ℕ) (d : QueuePlace) → PlacesRise ps → i < length ps → nat_cmp (unique_at ps i d) k ≡ Equal → IsFirstPlace (is_place_of k) ps i
  first-found ps i d rising within e = first-here ps i d rising within (same (unique_at ps i d) e) where
    same : (n : ℕ) → nat_cmp n k ≡ Equal → n ≡ k
    same n h = grind (arith, nat_tests)

  comparisons-rise : (ps : List QueuePlace) → PlacesRise ps → IsNonDecreasingBy (λ (p : QueuePlace). ordering_index (nat_cmp p.unique k)) ps
  comparisons-rise ps rising i j d le within = ordered (unique_at ps i d) (unique_at ps j d) rise where
    rise : unique_at ps i d ≤ unique_at ps j d
    rise = grind (arith, uniques-rise ps i j d rising, λ (same : i ≡ j). ap (λ n. unique_at ps n d) same)

    ordered : (a b : ℕ) → a ≤ b → ordering_index (nat_cmp a k) ≤ ordering_index (nat_cmp b k)
    ordered a b h = grind (arith, nat_tests)

  -- a search by halving that ends between two places finds none with the unique
  pub first-missing : (ps : List QueuePlace) (i : ℕ) (d : QueuePlace) → PlacesRise ps → IsBinarySearchResult (λ (p : QueuePlace). nat_cmp p.unique k) ps (Err i) → first_where (is_place_of k) ps ≡ None
  first-missing ps i d rising parted =
      let parts = parted (comparisons-rise ps rising) in
      first_where-nowhere (is_place_of k) ps d (λ j within. other-unique (unique_at ps j d) (λ e. elim (cases_order i j) [
        | inl here ↦ above (unique_at ps j d) e (parts.1 j d (omega (arith, here)) within)
        | inr (inl behind) ↦ above (unique_at ps j d) e (parts.1 j d (omega (arith, behind)) within)
        | inr (inr before) ↦ beneath (unique_at ps j d) e (parts.0 j d (omega arith) before)
      ])) where
        above : (a : ℕ) → a ≡ k → nat_cmp a k ≡ Greater → ⊥
        above a e h = grind (arith, nat_tests)

        beneath : (a : ℕ) → a ≡ k → nat_cmp a k ≡ Less → ⊥
        beneath a e h = grind (arith, nat_tests)
