-- Entries of a map as a list, and lists whose places rise.
use Rattle.std.proofs.Common.{◌≡◌, ℕ, ◌+◌, ◌<◌, Bool, false, cond, T, List, [], ◌∷◌, ◌++◌, map, length, get_or, Some, refl, sym, ap, ◌∙◌, arith}
use Rattle.std.proofs.Math.Facts.{and_yes}
use Rattle.std.proofs.Math.ListN.{get_or-map}
use Rattle.std.proofs.lemmas.List.{length-map}
use Rattle.std.proofs.lemmas.List.Elements.{All-contains_itself, All-weaker, Contains-append_right, recursion_from_All}
use Rattle.std.proofs.lemmas.List.Sorted.{IsPermutation-map}
use Rattle.std.proofs.lemmas.Map.Keys.{IsDistinct-head, IsDistinct-tail, IsDistinct-cons, IsDistinct-IsPermutation, apart_from_distinct, sorted_from_all_adjacent}
use Rattle.std.specs.Cmp.{IsTotalOrder, eq_by_cmp_equiv, tied_itself}
use Rattle.std.specs.FinMap.{find, is_sorted}
use Rattle.std.specs.FinMap.Entries.{below_all}
use Rattle.std.specs.List.{AllByRecursion, Contains, IsDistinct}
use Rattle.std.specs.List.Sorted.{IsPermutation, IsSortedBy, IsStrictlySortedBy}
use Rattle.std.specs.Ordering.{eq_by_cmp, is_eq, is_lt, ordering_reverse}
use Rattle.std.specs.declared.cmp.Ordering.{Ordering}
use Rattle.std.specs.declared.cmp.Ordering.TheVariants.{Less, Equal, Greater}
use Rattle.manifest.proofs.MapLemmas.{no_tie_behind}

-- what holds of each key and its value holds of all entries
pub all_entries : {K X : Type 0} {R : K → K → Ordering} (o : IsTotalOrder R) (P : K × X → Type 0) (es : List (K × X)) → T (is_sorted R es) →
    ((k : K) (v : X) → find R k es ≡ Some v → P (k, v)) → AllByRecursion P es
all_entries o P [] rise h = tt
all_entries {R = R} o P (e ∷ es) rise h =
    let w = and_yes (below_all R e.0 es) (is_sorted R es) rise in (
      h e.0 e.1 (ap (λ r. cond (is_eq r) (Some e.1) (find R e.0 es)) (tied_itself o e.0)),
      all_entries o P es w.1 (λ k v found. h k v (ap (λ b. cond b (Some e.1) (find R k es)) (no_tie_behind o e.0 k es v w.0 found) ∙ found)),
    )

pub all-map : {X Y : Type 0} (P : Y → Type 0) (f : X → Y) (xs : List X) → AllByRecursion (λ x. P (f x)) xs → AllByRecursion P (map f xs)
all-map P f [] h = tt
all-map P f (x ∷ xs) h = (h.0, all-map P f xs h.1)

pub all_weaker : {X : Type 0} (P Q : X → Type 0) → ((x : X) → P x → Q x) → (xs : List X) → AllByRecursion P xs → AllByRecursion Q xs
all_weaker P Q f [] h = tt
all_weaker P Q f (x ∷ xs) h = (f x h.0, all_weaker P Q f xs h.1)

-- what holds of each member
pub all_of : {X : Type 0} (P : X → Type 0) (xs : List X) → ((x : X) → Contains xs x → P x) → AllByRecursion P xs
all_of P xs h = recursion_from_All P xs (All-weaker (Contains xs) P h xs (All-contains_itself xs))

-- what is found is an entry
pub contains_found : {K X Y : Type 0} (R : K → K → Ordering) → ((x y : K) → R x y ≡ Equal → x ≡ y) → (f : K × X → Y) (q : K) (v : X) (es : List (K × X)) → find R q es ≡ Some v → Contains (map f es) (f (q, v))
contains_found R same f q v [] h = absurd (cc)
contains_found {K = K} {X = X} R same f q v (e ∷ es) h =
    elim (R q e.0) as (λ r. R q e.0 ≡ r → cond (is_eq r) (Some e.1) (find R q es) ≡ Some v → Contains (map f (e ∷ es)) (f (q, v))) [
      | Equal ↦ λ t g.
          let key = same q e.0 t in
          let value : e.1 ≡ v = cc in
          (0, omega arith, λ i. f (sym key i, value i))
      | Less ↦ λ t g. Contains-append_right (f e ∷ []) (map f es) (f (q, v)) (contains_found R same f q v es g)
      | Greater ↦ λ t g. Contains-append_right (f e ∷ []) (map f es) (f (q, v)) (contains_found R same f q v es g)
    ] refl h

all_below : {K X : Type 0} (R : K → K → Ordering) (k : K) (es : List (K × X)) → T (below_all R k es) → AllByRecursion (λ y. R k y ≡ Less) (map (λ (e : K × X). e.0) es)
all_below R k [] h = tt
all_below R k (e ∷ es) h = let w = and_yes (is_lt (R k e.0)) (below_all R k es) h in (less (R k e.0) w.0, all_below R k es w.1)
  where
    less : (r : Ordering) → T (is_lt r) → r ≡ Less
    less Less t = refl
    less Equal t = absurd t
    less Greater t = absurd t

-- the keys of a map rise
pub keys_rise : {K X : Type 0} (R : K → K → Ordering) (es : List (K × X)) → T (is_sorted R es) → IsStrictlySortedBy R (map (λ (e : K × X). e.0) es)
unfolding IsStrictlySortedBy
keys_rise R [] h = tt
keys_rise R (e ∷ es) h = let w = and_yes (below_all R e.0 es) (is_sorted R es) h in (all_below R e.0 es w.0, keys_rise R es w.1)

pub all-append : {X : Type 0} (P : X → Type 0) (xs ys : List X) → AllByRecursion P xs → AllByRecursion P ys → AllByRecursion P (xs ++ ys)
all-append P [] ys g h = h
all-append P (x ∷ xs) ys g h = (g.0, all-append P xs ys g.1 h)

-- two lists, each without one twice, that share none
pub distinct-append : {K : Type 0} (e : K → K → Bool) (xs ys : List K) → IsDistinct e xs → IsDistinct e ys → AllByRecursion (λ x. AllByRecursion (λ y. e x y ≡ false) ys) xs → IsDistinct e (xs ++ ys)
distinct-append e [] ys g h apart = h
distinct-append e (x ∷ xs) ys g h apart =
    IsDistinct-cons e x (xs ++ ys) (all-append (λ y. e x y ≡ false) xs ys (IsDistinct-head e x xs g) apart.0) (distinct-append e xs ys (IsDistinct-tail e x xs g) h apart.1)

next_is_above : (r : Ordering) → is_lt (ordering_reverse r) ≡ false → is_eq r ≡ false → r ≡ Less
next_is_above Less g h = refl
next_is_above Equal g h = absurd (cc)
next_is_above Greater g h = absurd (cc)

-- a sorted list rises where no two of its places tie
pub rising_from_sorted : {K X : Type 0} {R : K → K → Ordering} (o : IsTotalOrder R) (place : X → K) (xs ys : List X) (d : X) → IsPermutation xs ys → IsSortedBy (λ a b. is_lt (R (place a) (place b))) ys →
    IsDistinct (eq_by_cmp R) (map place xs) → IsStrictlySortedBy R (map place ys)
rising_from_sorted {R = R} o place xs ys d moved sorted apart =
    let apart_there = IsDistinct-IsPermutation (eq_by_cmp R) (λ x y. (eq_by_cmp_equiv o).symm x y) (map place xs) (map place ys) (IsPermutation-map place xs ys moved) apart in
    sorted_from_all_adjacent o (map place ys) (place d) (λ k within. step k within apart_there)
  where
    step : (k : ℕ) → k + 1 < length (map place ys) → IsDistinct (eq_by_cmp R) (map place ys) → R (get_or (map place ys) k (place d)) (get_or (map place ys) (k + 1) (place d)) ≡ Less
    step k within apart_there =
        let len = length-map ys place in
        let up = sorted k d (omega arith) (omega (arith, within, len)) in
        let a = get_or-map place ys k d in
        let b = get_or-map place ys (k + 1) d in
        let other = apart_from_distinct (eq_by_cmp R) (map place ys) k (k + 1) (place d) apart_there (omega arith) within in
        next_is_above _ (ap is_lt (sym (o.antisymm (get_or (map place ys) (k + 1) (place d)) (get_or (map place ys) k (place d)))) ∙ ap (λ x. is_lt (R x (get_or (map place ys) k (place d)))) b ∙ ap (λ x. is_lt (R (place (get_or ys (k + 1) d)) x)) a ∙ up) other
