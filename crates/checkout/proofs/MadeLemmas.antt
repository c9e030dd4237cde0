-- The files that were made, in a list by rising id, as the map that they are.
use Rattle.std.proofs.Common.{◌≡◌, ◌<◌, ◌==◌, ℕ, true, false, cond, List, [], ◌∷◌, ◌++◌, map, Option, Some, None, IsSome, refl, sym, ap, subst, ◌∙◌, eq-eqb, arith}
use Rattle.std.proofs.lemmas.Bool.Decides.{nat_tests}
use Rattle.std.specs.Cmp.{nat_cmp_total, unsigned_ties}
use Rattle.std.specs.FinMap.{FinMap, empty, entries, find, from_entries, get, get-from_entries, insert, nat_cmp-IsAntisymmetric, same_map}
use Rattle.std.specs.List.{AllByRecursion}
use Rattle.std.specs.List.Sorted.{IsStrictlySortedBy}
use Rattle.std.specs.Map.{keys_of}
use Rattle.std.specs.Option.{option_map}
use Rattle.std.specs.Ordering.{is_eq, nat_cmp}
use Rattle.std.specs.declared.cmp.Ordering.TheVariants.{Less}
use Rattle.checkout.specs.declared.changes.Made.{Made}
use Rattle.checkout.specs.declared.made.MadeFile.{MadeFile}
use Rattle.checkout.specs.Changes.{file_ids}
use Rattle.checkout.specs.Laying.{file_kept, with_made}
use Rattle.checkout.specs.Listing.{listed_file}
use Rattle.checkout.proofs.ChangedFiles.{made_under}
use Rattle.checkout.proofs.LaidFiles.{get-kept}
use Rattle.manifest.proofs.ListLemmas.{entries-by_number}

-- a made file, as an entry under its id
abbrev entry : Made → ℕ × MadeFile
entry x = (x.file.0, file_kept x)

keys-entries : (xs : List Made) → keys_of (map entry xs) ≡ file_ids xs
keys-entries [] = refl
keys-entries (x ∷ xs) = ap (λ ids. x.file.0 ∷ ids) (keys-entries xs)

find-entries : (xs : List Made) (id : ℕ) → find nat_cmp id (map entry xs) ≡ option_map file_kept (made_under id xs)
find-entries [] id = refl
find-entries (x ∷ xs) id =
    let same : is_eq (nat_cmp id x.file.0) ≡ (x.file.0 == id) = sym (unsigned_ties id x.file.0) ∙ turned id x.file.0 in
    ap (λ b. cond b (Some (file_kept x)) (find nat_cmp id (map entry xs))) same
    ∙ (elim (x.file.0 == id) as (λ b. cond b (Some (file_kept x)) (find nat_cmp id (map entry xs)) ≡ option_map file_kept (cond b (Some x) (made_under id xs))) [
      | true ↦ refl
      | false ↦ find-entries xs id
    ])
  where
    turned : (a b : ℕ) → (a == b) ≡ (b == a)
    turned a b = grind (arith, nat_tests)

listed-entries : (xs : List Made) → map listed_file (map entry xs) ≡ xs
listed-entries [] = refl
listed-entries (x ∷ xs) = ap (λ ys. x ∷ ys) (listed-entries xs)

-- the entries are the files of the list, in its order
pub listed-made : (xs : List Made) → IsStrictlySortedBy nat_cmp (file_ids xs) → map listed_file (entries (with_made empty xs)) ≡ xs
listed-made xs rise =
    let es = map entry xs in
    let same : with_made empty xs ≡ from_entries {R = nat_cmp} es =
    same_map nat_cmp_total nat_cmp-IsAntisymmetric _ _ (λ id. get-kept xs rise id ∙ sym (get-from_entries nat_cmp_total es id ∙ find-entries xs id)) in
    ap (λ (m : FinMap nat_cmp MadeFile). map listed_file (entries m)) same
    ∙ ap (map listed_file) (entries-by_number es (subst (IsStrictlySortedBy nat_cmp) (sym (keys-entries xs)) rise))
    ∙ listed-entries xs

-- one more at the end
pub with_made-end : (files : FinMap nat_cmp MadeFile) (xs : List Made) (x : Made) → with_made files (xs ++ x ∷ []) ≡ insert (with_made files xs) x.file.0 (file_kept x)
with_made-end files [] x = refl
with_made-end files (y ∷ ys) x = with_made-end (insert files y.file.0 (file_kept y)) ys x

-- ids that all belong to files of the list are below a later one
all_below : (n : ℕ) (xs : List Made) → ((id : ℕ) → IsSome (made_under id xs) → id < n) → AllByRecursion (λ k. k < n) (file_ids xs)
all_below n [] later = tt
all_below n (x ∷ xs) later = (
  later x.file.0 (subst IsSome (sym (ap (λ b. cond b (Some x) (made_under x.file.0 xs)) (eq-eqb x.file.0 x.file.0 refl))) refl),
  all_below n xs (λ id there. later id (elim (x.file.0 == id) as (λ b. IsSome (cond b (Some x) (made_under id xs))) [ true ↦ refl | false ↦ there ])),
)

-- no ids rise
pub none-rise : (xs : List Made) → xs ≡ [] → IsStrictlySortedBy nat_cmp (file_ids xs)
unfolding IsStrictlySortedBy
none-rise xs e = subst (λ ys. IsStrictlySortedBy nat_cmp (file_ids ys)) (sym e) tt

rise-end : (n : ℕ) (ids : List ℕ) → IsStrictlySortedBy nat_cmp ids → AllByRecursion (λ k. k < n) ids → IsStrictlySortedBy nat_cmp (ids ++ n ∷ [])
unfolding IsStrictlySortedBy
rise-end n [] rise below = (tt, tt)
rise-end n (k ∷ ks) rise below = (behind ks rise.0, rise-end n ks rise.1 below.1)
  where
    less : nat_cmp k n ≡ Less
    less = let h = below.0 in grind (arith, nat_tests)

    behind : (ys : List ℕ) → AllByRecursion (λ y. nat_cmp k y ≡ Less) ys → AllByRecursion (λ y. nat_cmp k y ≡ Less) (ys ++ n ∷ [])
    behind [] all = (less, tt)
    behind (y ∷ ys) all = (all.0, behind ys all.1)

ids-end : (xs : List Made) (x : Made) → file_ids (xs ++ x ∷ []) ≡ file_ids xs ++ x.file.0 ∷ []
ids-end [] x = refl
ids-end (y ∷ ys) x = ap (λ ids. y.file.0 ∷ ids) (ids-end ys x)

kept_is-some : (o : Option Made) → IsSome o → IsSome (option_map file_kept o)
kept_is-some (Some x) h = refl
kept_is-some None h = h

-- with a later one at the end ids rise still
pub made-rise : (xs : List Made) (x : Made) → IsStrictlySortedBy nat_cmp (file_ids xs) → ((id : ℕ) → IsSome (get (with_made empty xs) id) → id < x.file.0) → IsStrictlySortedBy nat_cmp (file_ids (xs ++ x ∷ []))
made-rise xs x rise later =
    let below = all_below x.file.0 xs (λ id there. later id (subst IsSome (sym (get-kept xs rise id)) (kept_is-some (made_under id xs) there))) in
    subst (IsStrictlySortedBy nat_cmp) (sym (ids-end xs x)) (rise-end x.file.0 (file_ids xs) rise below)
