-- The map that tiers are: what it has at each key, and when two are the same.
use Rattle.std.proofs.Common.{arith, zero, suc, ◌≡◌, ℕ, ◌==◌, ◌||◌, ◌&&◌, Bool, true, false, cond, List, [], ◌∷◌, ◌++◌, Option, Some, None, if◌then◌else◌, refl, sym, ap, ◌∙◌, inl, inr, ◌⊎◌}
use Rattle.std.specs.Cmp.{nat_cmp_total, unsigned_ties}
use Rattle.std.specs.FinMap.{empty, get, get-empty, get-insert, get-remove, insert, nat_cmp-IsAntisymmetric, remove, same_map}
use Rattle.std.specs.List.{list_any}
use Rattle.std.specs.Map.{keys_of as first_parts, lookup}
use Rattle.std.specs.BTreeMap.{get as tree_get, is_at, keys as tree_keys}
use Rattle.std.specs.Option.{option_or}
use Rattle.std.specs.Ordering.{eq_by_cmp, nat_cmp}
use Rattle.std.specs.Prelude.{nat_lt, slice_index_or}
use Rattle.std.proofs.lemmas.Bool.Decides.{nat_tests}
use Rattle.key_map.specs.Cells.{empty_bucket, empty_cell, in_bucket, in_cell, kept}
use Rattle.key_map.specs.Map.{all_keys, collected, in_tiers, keys_of, numbers_of, with_some}
use Rattle.key_map.specs.declared.bucket.Bucket.{Bucket}
use Rattle.key_map.specs.declared.cells.Cell.{Cell}
use Rattle.key_map.specs.declared.key_map.KeyMap.TheInside.{Inside}
use Rattle.key_map.proofs.CellLemmas.{same-or}

-- whether a key is in a list
abbrev is_in : ℕ → List ℕ → Bool
is_in q ks = list_any (λ (k : ℕ). k == q) ks

same : (q : ℕ) → (q == q) ≡ true
same q = grind (arith, nat_tests)

eq-key : (q k : ℕ) → eq_by_cmp nat_cmp q k ≡ (q == k)
eq-key q k = sym (unsigned_ties q k)

-- a map has at a key what was collected, if the key is one of those that were looked at
get-collected : (at : ℕ → Option ℕ) (ks : List ℕ) (q : ℕ) → ((n : ℕ) → at q ≡ Some n → is_in q ks ≡ true) → get (collected at ks) q ≡ at q
get-collected at [] q all = get-empty nat_cmp q ∙ sym (none (at q) refl) where
  none : (o : Option ℕ) → at q ≡ o → at q ≡ None
  none None e = e
  none (Some n) e = let t = all n e in absurd (let no : ⊥ = cc in no)
get-collected at (k ∷ ks) q all = in_ (at k) refl (same-or k q) (get-collected at ks q) where
  rest : (k == q) ≡ false → (n : ℕ) → at q ≡ Some n → is_in q ks ≡ true
  rest f n e = sym (rw f refl) ∙ all n e

  in_ : (o : Option ℕ) → at k ≡ o → (k ≡ q) ⊎ ((k == q) ≡ false) → (((n : ℕ) → at q ≡ Some n → is_in q ks ≡ true) → get (collected at ks) q ≡ at q) → get (with_some (collected at ks) k o) q ≡ at q
  in_ (Some n) e (inl s) more =
      get-insert nat_cmp_total (collected at ks) k n q
      ∙ ap (λ (b : Bool). cond b (Some n) (get (collected at ks) q)) (eq-key q k ∙ ap (λ (x : ℕ). q == x) s ∙ same q)
      ∙ sym e ∙ ap at s
  in_ (Some n) e (inr f) more =
      get-insert nat_cmp_total (collected at ks) k n q
      ∙ ap (λ (b : Bool). cond b (Some n) (get (collected at ks) q)) (eq-key q k ∙ (let other : (q == k) ≡ false = grind (arith, nat_tests) in other))
      ∙ more (rest f)
  in_ None e (inl s) more = more (λ n h. let none = ap at s in absurd (let no : ⊥ = cc in no))
  in_ None e (inr f) more = more (rest f)

-- a list has what either of its parts has
in-left : (q : ℕ) (xs ys : List ℕ) → is_in q xs ≡ true → is_in q (xs ++ ys) ≡ true
in-left q [] ys t = absurd (let no : ⊥ = cc in no)
in-left q (x ∷ xs) ys t = in_ (x == q) refl (in-left q xs ys) t where
  in_ : (b : Bool) → (x == q) ≡ b → (is_in q xs ≡ true → is_in q (xs ++ ys) ≡ true) → (b || is_in q xs) ≡ true → (b || is_in q (xs ++ ys)) ≡ true
  in_ true e more u = refl
  in_ false e more u = more u

in-right : (q : ℕ) (xs ys : List ℕ) → is_in q ys ≡ true → is_in q (xs ++ ys) ≡ true
in-right q [] ys t = t
in-right q (x ∷ xs) ys t = ap (λ (b : Bool). (x == q) || b) (in-right q xs ys t) ∙ or-true (x == q) where
  or-true : (b : Bool) → (b || true) ≡ true
  or-true true = refl
  or-true false = refl

or-true : (b : Bool) → (b || true) ≡ true
or-true true = refl
or-true false = refl

-- a list has what it has behind one more
in-tail : (q x : ℕ) (xs : List ℕ) → is_in q xs ≡ true → is_in q (x ∷ xs) ≡ true
in-tail q x xs t = ap (λ (b : Bool). (x == q) || b) t ∙ or-true (x == q)

in-head : (q x : ℕ) (xs : List ℕ) → (x == q) ≡ true → is_in q (x ∷ xs) ≡ true
in-head q x xs t = ap (λ (b : Bool). b || is_in q xs) t

-- what a cell has for a key is at the cell's key
cell-key : (q n : ℕ) (cell : Cell) → in_cell q cell ≡ Some n → (cell.key == q) ≡ true
cell-key q n cell e = in_ (cell.key == q) refl e where
  in_ : (b : Bool) → (cell.key == q) ≡ b → (if b && nat_lt 0 cell.number then Some cell.number else None) ≡ Some n → (cell.key == q) ≡ true
  in_ true t u = t
  in_ false t u = let no : ⊥ = cc in absurd no

-- and what a bucket has is at the key of a cell
bucket-key : (q n : ℕ) (b : Bucket) (ks : List ℕ) → in_bucket q b ≡ Some n → is_in q (b.first.key ∷ b.second.key ∷ b.third.key ∷ b.fourth.key ∷ ks) ≡ true
bucket-key q n b ks e = one (in_cell q b.first) refl e where
  four : in_cell q b.fourth ≡ Some n → is_in q (b.fourth.key ∷ ks) ≡ true
  four e = in-head q b.fourth.key ks (cell-key q n b.fourth e)

  three : (o : Option ℕ) → in_cell q b.third ≡ o → option_or o (in_cell q b.fourth) ≡ Some n → is_in q (b.third.key ∷ b.fourth.key ∷ ks) ≡ true
  three (Some m) t e = in-head q b.third.key (b.fourth.key ∷ ks) (cell-key q m b.third t)
  three None t e = in-tail q b.third.key (b.fourth.key ∷ ks) (four e)

  two : (o : Option ℕ) → in_cell q b.second ≡ o → option_or o (option_or (in_cell q b.third) (in_cell q b.fourth)) ≡ Some n → is_in q (b.second.key ∷ b.third.key ∷ b.fourth.key ∷ ks) ≡ true
  two (Some m) t e = in-head q b.second.key (b.third.key ∷ b.fourth.key ∷ ks) (cell-key q m b.second t)
  two None t e = in-tail q b.second.key (b.third.key ∷ b.fourth.key ∷ ks) (three (in_cell q b.third) refl e)

  one : (o : Option ℕ) → in_cell q b.first ≡ o → option_or o (option_or (in_cell q b.second) (option_or (in_cell q b.third) (in_cell q b.fourth))) ≡ Some n → is_in q (b.first.key ∷ b.second.key ∷ b.third.key ∷ b.fourth.key ∷ ks) ≡ true
  one (Some m) t e = in-head q b.first.key (b.second.key ∷ b.third.key ∷ b.fourth.key ∷ ks) (cell-key q m b.first t)
  one None t e = in-tail q b.first.key (b.second.key ∷ b.third.key ∷ b.fourth.key ∷ ks) (two (in_cell q b.second) refl e)

empty-cell : (q : ℕ) → in_cell q empty_cell ≡ None
empty-cell q = in_ (0 == q) where
  in_ : (b : Bool) → if◌then◌else◌ {A = Option ℕ} (b && false) (Some 0) None ≡ None
  in_ true = refl
  in_ false = refl

empty-bucket : (q : ℕ) → in_bucket q empty_bucket ≡ None
empty-bucket q = rw (empty-cell q) refl

-- and so is what buckets have
buckets-key : (q n : ℕ) (buckets : List Bucket) (i : ℕ) → in_bucket q (slice_index_or buckets i empty_bucket) ≡ Some n → is_in q (keys_of buckets) ≡ true
buckets-key q n [] i e = let none = empty-bucket q in let no : ⊥ = cc in absurd no
buckets-key q n (b ∷ bs) zero e = bucket-key q n b (keys_of bs) e
buckets-key q n (b ∷ bs) (suc i) e =
    in-tail q b.first.key (b.second.key ∷ b.third.key ∷ b.fourth.key ∷ keys_of bs)
    (in-tail q b.second.key (b.third.key ∷ b.fourth.key ∷ keys_of bs)
    (in-tail q b.third.key (b.fourth.key ∷ keys_of bs) (in-tail q b.fourth.key (keys_of bs) (buckets-key q n bs i e))))

-- what the tree has is at one of its keys
tree-key : (q n : ℕ) (es : List (ℕ × ℕ)) → lookup (is_at (nat_cmp q)) es ≡ Some n → is_in q (first_parts es) ≡ true
tree-key q n [] e = let no : ⊥ = cc in absurd no
tree-key q n (x ∷ es) e = in_ (is_at (nat_cmp q) x.0) refl e (tree-key q n es) where
  in_ : (b : Bool) → is_at (nat_cmp q) x.0 ≡ b → cond b (Some x.1) (lookup (is_at (nat_cmp q)) es) ≡ Some n → (lookup (is_at (nat_cmp q)) es ≡ Some n → is_in q (first_parts es) ≡ true) → is_in q (x.0 ∷ first_parts es) ≡ true
  in_ true t u more = let s : (q == x.0) ≡ true = unsigned_ties q x.0 ∙ t in in-head q x.0 (first_parts es) (let turned : (x.0 == q) ≡ true = grind (arith, nat_tests) in turned)
  in_ false t u more = in-tail q x.0 (first_parts es) (more u)

-- what a map has is at one of its keys
tiers-key : (m : Inside) (q n : ℕ) → in_tiers m q ≡ Some n → is_in q (all_keys m) ≡ true
unfolding in_tiers
tiers-key m q n e = one (kept m.tiers.buckets.items m.tiers.shift q) refl e where
  three : (o : Option ℕ) → kept m.tiers.rest.rest.buckets.items m.tiers.rest.rest.shift q ≡ o → option_or o (tree_get nat_cmp m.tiers.rest.rest.rest.numbers q) ≡ Some n → is_in q (keys_of m.tiers.rest.rest.buckets.items ++ tree_keys m.tiers.rest.rest.rest.numbers) ≡ true
  three (Some k) t u = in-left q (keys_of m.tiers.rest.rest.buckets.items) (tree_keys m.tiers.rest.rest.rest.numbers) (buckets-key q k m.tiers.rest.rest.buckets.items _ t)
  three None t u = in-right q (keys_of m.tiers.rest.rest.buckets.items) (tree_keys m.tiers.rest.rest.rest.numbers) (tree-key q n m.tiers.rest.rest.rest.numbers.entries u)

  two : (o : Option ℕ) → kept m.tiers.rest.buckets.items m.tiers.rest.shift q ≡ o → option_or o (option_or (kept m.tiers.rest.rest.buckets.items m.tiers.rest.rest.shift q) (tree_get nat_cmp m.tiers.rest.rest.rest.numbers q)) ≡ Some n →
      is_in q (keys_of m.tiers.rest.buckets.items ++ (keys_of m.tiers.rest.rest.buckets.items ++ tree_keys m.tiers.rest.rest.rest.numbers)) ≡ true
  two (Some k) t u = in-left q (keys_of m.tiers.rest.buckets.items) (keys_of m.tiers.rest.rest.buckets.items ++ tree_keys m.tiers.rest.rest.rest.numbers) (buckets-key q k m.tiers.rest.buckets.items _ t)
  two None t u = in-right q (keys_of m.tiers.rest.buckets.items) (keys_of m.tiers.rest.rest.buckets.items ++ tree_keys m.tiers.rest.rest.rest.numbers) (three (kept m.tiers.rest.rest.buckets.items m.tiers.rest.rest.shift q) refl u)

  one : (o : Option ℕ) → kept m.tiers.buckets.items m.tiers.shift q ≡ o → option_or o (option_or (kept m.tiers.rest.buckets.items m.tiers.rest.shift q) (option_or (kept m.tiers.rest.rest.buckets.items m.tiers.rest.rest.shift q) (tree_get nat_cmp m.tiers.rest.rest.rest.numbers q))) ≡ Some n → is_in q (all_keys m) ≡ true
  one (Some k) t u = in-left q (keys_of m.tiers.buckets.items) (keys_of m.tiers.rest.buckets.items ++ (keys_of m.tiers.rest.rest.buckets.items ++ tree_keys m.tiers.rest.rest.rest.numbers)) (buckets-key q k m.tiers.buckets.items _ t)
  one None t u = in-right q (keys_of m.tiers.buckets.items) (keys_of m.tiers.rest.buckets.items ++ (keys_of m.tiers.rest.rest.buckets.items ++ tree_keys m.tiers.rest.rest.rest.numbers)) (two (kept m.tiers.rest.buckets.items m.tiers.rest.shift q) refl u)

-- a map has at a key what its tiers have
pub get-numbers_of : (m : Inside) (q : ℕ) → get (numbers_of m) q ≡ in_tiers m q
unfolding numbers_of
get-numbers_of m q = get-collected (in_tiers m) (all_keys m) q (λ n e. tiers-key m q n e)

-- two maps whose tiers have the same at each key are one
pub same-numbers : (m n : Inside) → ((q : ℕ) → in_tiers n q ≡ in_tiers m q) → numbers_of n ≡ numbers_of m
same-numbers m n are = same_map nat_cmp_total nat_cmp-IsAntisymmetric (numbers_of n) (numbers_of m) (λ q. get-numbers_of n q ∙ are q ∙ sym (get-numbers_of m q))

-- nothing at any key
pub none-numbers : (m : Inside) → ((q : ℕ) → in_tiers m q ≡ None) → numbers_of m ≡ empty
none-numbers m none = same_map nat_cmp_total nat_cmp-IsAntisymmetric (numbers_of m) empty (λ q. get-numbers_of m q ∙ none q ∙ sym (get-empty nat_cmp q))

-- one number more
pub insert-numbers : (m n : Inside) (key number : ℕ) → ((q : ℕ) → in_tiers n q ≡ (if q == key then Some number else in_tiers m q)) → numbers_of n ≡ insert (numbers_of m) key number
insert-numbers m n key number are =
    same_map nat_cmp_total nat_cmp-IsAntisymmetric (numbers_of n) (insert (numbers_of m) key number) (λ q.
    get-numbers_of n q ∙ are q
    ∙ ap (λ (o : Option ℕ). if q == key then Some number else o) (sym (get-numbers_of m q))
    ∙ ap (λ (b : Bool). if b then Some number else get (numbers_of m) q) (sym (eq-key q key))
    ∙ sym (get-insert nat_cmp_total (numbers_of m) key number q))

-- one number less
pub remove-numbers : (m n : Inside) (key : ℕ) → ((q : ℕ) → in_tiers n q ≡ (if q == key then None else in_tiers m q)) → numbers_of n ≡ remove (numbers_of m) key
remove-numbers m n key are =
    same_map nat_cmp_total nat_cmp-IsAntisymmetric (numbers_of n) (remove (numbers_of m) key) (λ q.
    get-numbers_of n q ∙ are q
    ∙ ap (λ (o : Option ℕ). if q == key then None else o) (sym (get-numbers_of m q))
    ∙ ap (λ (b : Bool). if b then None else get (numbers_of m) q) (sym (eq-key q key))
    ∙ sym (get-remove nat_cmp_total (numbers_of m) key q))

-- tiers without buckets over a tree without numbers
pub empty-tiers : (m : Inside) → m.tiers.buckets.items ≡ [] → m.tiers.rest.buckets.items ≡ [] → m.tiers.rest.rest.buckets.items ≡ [] →
    ((q : ℕ) → tree_get nat_cmp m.tiers.rest.rest.rest.numbers q ≡ None) → (q : ℕ) → in_tiers m q ≡ None
unfolding in_tiers
empty-tiers m first second third none q =
    let a : kept m.tiers.buckets.items m.tiers.shift q ≡ None = ap (λ (bs : List Bucket). kept bs m.tiers.shift q) first ∙ empty-bucket q in
    let b : kept m.tiers.rest.buckets.items m.tiers.rest.shift q ≡ None = ap (λ (bs : List Bucket). kept bs m.tiers.rest.shift q) second ∙ empty-bucket q in
    let c : kept m.tiers.rest.rest.buckets.items m.tiers.rest.rest.shift q ≡ None = ap (λ (bs : List Bucket). kept bs m.tiers.rest.rest.shift q) third ∙ empty-bucket q in
    rw (a, b, c) (none q)
