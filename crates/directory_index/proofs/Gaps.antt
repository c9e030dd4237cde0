-- Numbers by rising order, and what a search, an insertion and a removal make of them.
use Rattle.std.proofs.Common.{◌≡◌, ℕ, ◌+◌, ◌-◌, ◌<◌, ◌≤◌, Bool, true, false, zero, suc, List, ◌∷◌, Bor, Option, Some, None, Result, Ok, Err, cond, MatchOption, MatchResult, length, get_or, inl, inr, ◌⊎◌, refl, sym, ap, subst, ◌∙◌, arith}
use Rattle.std.proofs.lemmas.Bool.Decides.{nat_tests}
use Rattle.std.proofs.lemmas.List.{get_or_default}
use Rattle.std.proofs.lemmas.List.Edits.{get_or-insert_above, get_or-insert_at, get_or-insert_below, get_or-remove_above, get_or-remove_below, length-insert, length-remove}
use Rattle.std.proofs.lemmas.List.Folds.{list_any_at, Any-from_list_any}
use Rattle.std.proofs.lemmas.List.Sorted.{list_any-IsPermutation, searched, IsPermutation-insert, IsPermutation-remove}
use Rattle.std.proofs.lemmas.Option.{get_or_from_slice_get, slice_get-get_or, slice_get_cases, slice_get_past}
use Rattle.std.specs.BTreeMap.{is_at}
use Rattle.std.specs.Cmp.{unsigned_ties}
use Rattle.std.specs.List.{insert, remove, slice_get}
use Rattle.std.specs.List.Sorted.{IsBinarySearchResult}
use Rattle.std.specs.Ordering.{nat_cmp}
use Rattle.std.specs.Option.{option_copied}
use Rattle.std.specs.Slice.{IsItemAt}
use Rattle.std.specs.Result.{result_err}
use Rattle.std.specs.Prelude.{◌==◌, ◌&&◌, ◌||◌, not, nat_lt}
use Rattle.eden_base.proofs.NumberTests.{eq-true, true-eq}
use Rattle.directory_index.specs.Rising.{is_in, IsFirstOf, IsGap, IsRising}

-- the test of a member
is-test : (n m : ℕ) → is_at (nat_cmp n) m ≡ (n == m)
is-test n m = sym (unsigned_ties n m)

-- what stands at an index is in the list
pub in-at : (xs : List ℕ) (k n : ℕ) → k < length xs → get_or xs k 0 ≡ n → is_in n xs ≡ true
in-at xs k n bound is = list_any_at (is_at (nat_cmp n)) xs k 0 bound (is-test n (get_or xs k 0) ∙ eq-true n (get_or xs k 0) (sym is))

-- and what is in the list stands at an index
pub at-in : (xs : List ℕ) (n : ℕ) → is_in n xs ≡ true → (k : ℕ) × (k < length xs) × (get_or xs k 0 ≡ n)
at-in xs n t =
    let w = Any-from_list_any (is_at (nat_cmp n)) xs t in
    (w.0, w.2, get_or_default xs w.0 0 w.1 w.2 ∙ w.3 ∙ sym (true-eq n w.1 (sym (is-test n w.1) ∙ w.4)))

-- a test of two numbers is the same both ways
swapped : (n m : ℕ) → (m == n) ≡ (n == m)
swapped n m = in_ (n == m) refl (m == n) refl where
  in_ : (b : Bool) → (n == m) ≡ b → (c : Bool) → (m == n) ≡ c → c ≡ b
  in_ true t true u = refl
  in_ true t false u = let same = eq-true m n (sym (true-eq n m t)) in let no : ⊥ = cc in absurd no
  in_ false t true u = let same = eq-true n m (sym (true-eq m n u)) in let no : ⊥ = cc in absurd no
  in_ false t false u = refl

-- one more number comes to a list
pub more-in : (n m : ℕ) (old new : Bool) → new ≡ cond (is_at (nat_cmp m) n) true old → new ≡ (old || is_at (nat_cmp n) m)
more-in n m old new is = is ∙ ap (λ (b : Bool). cond b true old) (is-test m n ∙ swapped n m) ∙ in_ old (n == m) ∙ ap (λ (b : Bool). old || b) (sym (is-test n m)) where
  in_ : (o b : Bool) → cond b true o ≡ (o || b)
  in_ true true = refl
  in_ true false = refl
  in_ false true = refl
  in_ false false = refl

-- what a look at an index copies
pub copied-get : (xs : List ℕ) (i : ℕ) (o : Option (Bor ℕ)) → IsItemAt xs i o → option_copied o ≡ slice_get xs i
copied-get xs i None is = let test = is.0 in let past : length xs ≤ i = grind (arith, nat_tests) in sym (slice_get_past xs i past)
copied-get xs i (Some b) is = ap Some (is.3.1 0) ∙ sym (slice_get-get_or xs i 0 is.3.0)

-- a list with a gap for a number doesn't have it
pub gap-none : (xs : List ℕ) (n i : ℕ) → IsGap xs n i → is_in n xs ≡ false
gap-none xs n i gap = in_ (is_in n xs) refl where
  in_ : (b : Bool) → is_in n xs ≡ b → is_in n xs ≡ false
  in_ false t = t
  in_ true t = let w = at-in xs n t in let no : ⊥ = grind (arith, gap.below w.0, gap.above w.0, w.1, w.2) in absurd no

module _ (xs : List ℕ) (rising : IsRising xs) where
  -- a later number is no less
  no-less : (i j : ℕ) → i ≤ j → j < length xs → get_or xs i 0 ≤ get_or xs j 0
  no-less i j order bound = grind (arith, rising i j, λ (same : i ≡ j). ap (λ (k : ℕ). get_or xs k 0) same)

  -- a search ends at the number, or at the gap for it
  pub search-ends : (n : ℕ) (r : Result ℕ ℕ) → IsBinarySearchResult (λ y. nat_cmp y n) xs r → MatchResult r (λ i. (i < length xs) × (get_or xs i 0 ≡ n)) (IsGap xs n)
  search-ends n (Ok i) is = searched xs n (Ok i) is no-less
  search-ends n (Err i) is = let w = searched xs n (Err i) is no-less in record { bound = w.0; below = w.1; above = w.2 }

  -- what stands at the index where the numbers from `least` on begin is the first of them
  pub first-at : (least i : ℕ) → ((k : ℕ) → k < i → get_or xs k 0 < least) → ((k : ℕ) → i ≤ k → k < length xs → least ≤ get_or xs k 0) → (o : Option ℕ) → o ≡ slice_get xs i → IsFirstOf xs least o
  first-at least i below above o is = in_ (slice_get_cases xs i).1 where
    index-of : (other : ℕ) → is_in other xs ≡ true → least ≤ other → (k : ℕ) × (k < length xs) × (get_or xs k 0 ≡ other) × (i ≤ k)
    index-of other t up = let w = at-in xs other t in (w.0, w.1, w.2, grind (arith, below w.0, w.2))

    in_ : ((x : ℕ) × (i < length xs) × (slice_get xs i ≡ Some x) × (get_or xs i x ≡ x)) ⊎ ((length xs ≤ i) × (slice_get xs i ≡ None)) → IsFirstOf xs least o
    in_ (inl w) =
        let there = get_or_from_slice_get xs i w.0 0 w.2 in
        let more = above i (omega arith) w.1 in
        let some : IsFirstOf xs least (Some w.0) = (
          in-at xs i w.0 w.1 there,
          omega arith,
          λ other t up. let k = index-of other t up in let order = no-less i k.0 k.3 k.1 in let its = k.2 in omega arith,
        ) in
        subst (IsFirstOf xs least) (sym (is ∙ w.2)) some
    in_ (inr w) =
        let none : IsFirstOf xs least None = λ other up. out other up (is_in other xs) refl in
        subst (IsFirstOf xs least) (sym (is ∙ w.1)) none where
          out : (other : ℕ) → least ≤ other → (b : Bool) → is_in other xs ≡ b → is_in other xs ≡ false
          out other up false t = t
          out other up true t = let k = index-of other t up in let bound = k.1 in let order = k.3 in let past = w.0 in let no : ⊥ = omega arith in absurd no

  -- a search ends where the numbers from `least` on begin
  pub found-first : (least i : ℕ) (r : Result ℕ ℕ) → r ≡ Ok i → IsBinarySearchResult (λ y. nat_cmp y least) xs r → (o : Option ℕ) → o ≡ slice_get xs i → IsFirstOf xs least o
  found-first least i r is search o looked =
      let w = search-ends least (Ok i) (subst (IsBinarySearchResult (λ y. nat_cmp y least) xs) is search) in
      first-at least i (λ k b. let less = rising k i b w.0 in let here_ = w.1 in omega arith) (λ k b c. let more = no-less i k b c in let here_ = w.1 in omega arith) o looked

  pub gap-first : (least i : ℕ) (r : Result ℕ ℕ) → r ≡ Err i → IsBinarySearchResult (λ y. nat_cmp y least) xs r → (o : Option ℕ) → o ≡ slice_get xs i → IsFirstOf xs least o
  gap-first least i r is search o looked =
      let w = search-ends least (Err i) (subst (IsBinarySearchResult (λ y. nat_cmp y least) xs) is search) in
      first-at least i w.below (λ k b c. let more = w.above k b c in omega arith) o looked

  -- a search that found the number
  pub found-at : (n i : ℕ) (r : Result ℕ ℕ) → r ≡ Ok i → IsBinarySearchResult (λ y. nat_cmp y n) xs r → (i < length xs) × (get_or xs i 0 ≡ n)
  found-at n i r is search = search-ends n (Ok i) (subst (IsBinarySearchResult (λ y. nat_cmp y n) xs) is search)

  -- a search that found a gap, so that there is nothing to remove
  pub left-out : (n i : ℕ) (r : Result ℕ ℕ) → r ≡ Err i → IsBinarySearchResult (λ y. nat_cmp y n) xs r → (m : ℕ) → is_in m xs ≡ (not (m == n) && is_in m xs)
  left-out n i r is search m = in_ (m == n) refl where
    in_ : (b : Bool) → (m == n) ≡ b → is_in m xs ≡ (not b && is_in m xs)
    in_ false t = refl
    in_ true t = ap (λ (x : ℕ). is_in x xs) (true-eq m n t) ∙ gap-none xs n i (search-ends n (Err i) (subst (IsBinarySearchResult (λ y. nat_cmp y n) xs) is search))

  -- what a search that failed leaves
  pub gap-of : (n : ℕ) (r : Result ℕ ℕ) → IsBinarySearchResult (λ y. nat_cmp y n) xs r → MatchOption (result_err r) (is_in n xs ≡ true) (IsGap xs n)
  gap-of n (Ok i) is = let w = search-ends n (Ok i) is in in-at xs i n w.0 w.1
  gap-of n (Err i) is = search-ends n (Err i) is

  -- there is a gap for a number that the list doesn't have
  pub some-gap : (n : ℕ) → is_in n xs ≡ false → (i : ℕ) × IsGap xs n i
  some-gap n out = from (length xs) 0 (omega arith) (λ k b. let no : ⊥ = omega arith in absurd no) where
    other : (k : ℕ) → k < length xs → get_or xs k 0 ≡ n → ⊥
    other k bound is = let there = in-at xs k n bound is in let no : ⊥ = cc in no

    test : (i : ℕ) → i < length xs → ((k : ℕ) → k < i → get_or xs k 0 < n) → (b : Bool) → nat_lt (get_or xs i 0) n ≡ b →
        (((k : ℕ) → k < i + 1 → get_or xs k 0 < n) → (j : ℕ) × IsGap xs n j) → (j : ℕ) × IsGap xs n j
    test i bound below true t next =
        let less : get_or xs i 0 < n = grind (arith, nat_tests) in
        next (λ k b. grind (arith, below k, less, λ (same : k ≡ i). ap (λ (m : ℕ). get_or xs m 0) same))
    test i bound below false t next =
        let more : n ≤ get_or xs i 0 = grind (arith, nat_tests) in
        (i, record { bound = omega arith; below = below; above = λ k b c. let order = no-less i k b c in let apart = other k c in grind (arith, more, order, apart) })

    from : (left i : ℕ) → i + left ≡ length xs → ((k : ℕ) → k < i → get_or xs k 0 < n) → (j : ℕ) × IsGap xs n j
    from zero i all below = (i, record { bound = omega arith; below = below; above = λ k b c. let no : ⊥ = omega arith in absurd no })
    from (suc left) i all below = test i (omega arith) below (nat_lt (get_or xs i 0) n) refl (from left (i + 1) (omega arith))

  -- a number comes into its gap
  module _ (n i : ℕ) (gap : IsGap xs n i) where
    pub inserted-rises : IsRising (insert xs i n)
    inserted-rises j k order bound =
        let new = insert xs i n in
        let longer = length-insert xs i n gap.bound in
        let below : (m : ℕ) → m < i → get_or new m 0 ≡ get_or xs m 0 = λ m b. get_or-insert_below xs i n 0 m b gap.bound in
        let here_ : (m : ℕ) → m ≡ i → get_or new m 0 ≡ n = λ m e. ap (λ (x : ℕ). get_or new x 0) e ∙ get_or-insert_at xs i n 0 gap.bound in
        let above : (m : ℕ) → i < m → get_or new m 0 ≡ get_or xs (m - 1) 0 =
        λ m b. subst (λ (x : ℕ). get_or new x 0 ≡ get_or xs (m - 1) 0) {x = m - 1 + 1} (omega arith) (get_or-insert_above xs i n 0 (m - 1) (omega arith) gap.bound) in
        grind (arith, below j, here_ j, above j, below k, here_ k, above k, rising j k, rising j (k - 1), rising (j - 1) (k - 1), gap.below j, gap.above (k - 1))

    pub inserted-has : (m : ℕ) → is_in m (insert xs i n) ≡ ((m == n) || is_in m xs)
    inserted-has m = sym (list_any-IsPermutation (is_at (nat_cmp m)) (n ∷ xs) (insert xs i n) (IsPermutation-insert xs i n)) ∙ ap (λ (b : Bool). b || is_in m xs) (is-test m n)

  -- a number goes from its index
  module _ (n i : ℕ) (bound : i < length xs) (is : get_or xs i 0 ≡ n) where
    pub removed-rises : IsRising (remove xs i)
    removed-rises j k order less =
        let new = remove xs i in
        let shorter = length-remove xs i bound in
        let below : (m : ℕ) → m < i → get_or new m 0 ≡ get_or xs m 0 = λ m b. get_or-remove_below xs i 0 m b bound in
        let above : (m : ℕ) → i ≤ m → get_or new m 0 ≡ get_or xs (m + 1) 0 = λ m b. get_or-remove_above xs i 0 m b bound in
        grind (arith, below j, above j, below k, above k, rising j k, rising j (k + 1), rising (j + 1) (k + 1))

    removed-gap : IsGap (remove xs i) n i
    removed-gap =
        let shorter = length-remove xs i bound in
        record {
          bound = omega arith;
          below = λ k b. let e = get_or-remove_below xs i 0 k b bound in let less = rising k i b bound in omega arith;
          above = λ k b c. let e = get_or-remove_above xs i 0 k b bound in let more = rising i (k + 1) (omega arith) (omega arith) in omega arith;
        }

    pub removed-has : (m : ℕ) → is_in m (remove xs i) ≡ (not (m == n) && is_in m xs)
    removed-has m = in_ (m == n) refl where
      was : is_in m xs ≡ ((m == n) || is_in m (remove xs i))
      was = list_any-IsPermutation (is_at (nat_cmp m)) xs (n ∷ remove xs i) (IsPermutation-remove xs i n bound (sym is ∙ get_or_default xs i 0 n bound)) ∙ ap (λ (b : Bool). b || is_in m (remove xs i)) (is-test m n)

      in_ : (b : Bool) → (m == n) ≡ b → is_in m (remove xs i) ≡ (not b && is_in m xs)
      in_ true t = ap (λ (x : ℕ). is_in x (remove xs i)) (true-eq m n t) ∙ gap-none (remove xs i) n i removed-gap
      in_ false t = sym (was ∙ ap (λ (b : Bool). b || is_in m (remove xs i)) t)
