-- Made files of which none is bad rise.
use Rattle.std.proofs.Common.{◌≡◌, ℕ, ◌+◌, ◌<◌, Bool, true, false, nat_lt, not, ◌||◌, if◌then◌else◌, List, [], ◌∷◌, Option, Some, None, refl, arith}
use Rattle.std.proofs.lemmas.Bool.Decides.{nat_tests}
use Rattle.std.specs.List.{AllByRecursion}
use Rattle.std.specs.List.Sorted.{IsStrictlySortedBy}
use Rattle.std.specs.Ordering.{nat_cmp}
use Rattle.std.specs.declared.cmp.Ordering.TheVariants.{Less}
use Rattle.eden_base.proofs.FirstLemmas.{Each-kept}
use Rattle.eden_base.specs.declared.number.FileId.{FileId}
use Rattle.checkout.specs.declared.changes.Made.{Made}
use Rattle.checkout.specs.BadChanges.{first_bad, is_bad_made, last_file}
use Rattle.checkout.specs.Changes.{file_ids}
use Rattle.manifest.specs.Manifest.{Manifest}

module _ (m : Manifest) (next : FileId) where
  -- the first is not bad, and none behind it
  none_bad : (place : ℕ) (x : Made) (xs : List Made) (b : Bool) → (if b then Some place else first_bad (is_bad_made m next) (place + 1) (Some x) xs) ≡ None → (b ≡ false) × (first_bad (is_bad_made m next) (place + 1) (Some x) xs ≡ None)
  none_bad place x xs true h = absurd (cc)
  none_bad place x xs false h = (refl, h)

  does_rise : (r l u : Bool) → (not r || not l || not u) ≡ false → r ≡ true
  does_rise true l u h = refl
  does_rise false true true h = absurd (cc)
  does_rise false true false h = absurd (cc)
  does_rise false false u h = absurd (cc)

  below_all : (a b : ℕ) (ids : List ℕ) → a < b → AllByRecursion (λ y. nat_cmp b y ≡ Less) ids → AllByRecursion (λ y. nat_cmp a y ≡ Less) ids
  below_all a b ids h all = Each-kept (λ y. nat_cmp b y ≡ Less) (λ y. nat_cmp a y ≡ Less) ids all (λ y e. less y e)
    where
      less : (y : ℕ) → nat_cmp b y ≡ Less → nat_cmp a y ≡ Less
      less y e = grind (arith, nat_tests)

  all_above : (place : ℕ) (before : Made) (xs : List Made) → first_bad (is_bad_made m next) place (Some before) xs ≡ None → AllByRecursion (λ y. nat_cmp before.file.0 y ≡ Less) (file_ids xs)
  all_above place before [] h = tt
  all_above place before (x ∷ xs) h =
      let rest = none_bad place x xs (is_bad_made m next (Some before) x) h in
      let test = does_rise (nat_lt before.file.0 x.file.0) (nat_lt (last_file m) x.file.0) (nat_lt x.file.0 next.0) rest.0 in
      let less : before.file.0 < x.file.0 = grind (arith, nat_tests) in
      let is : nat_cmp before.file.0 x.file.0 ≡ Less = grind (arith, nat_tests) in
      (is, below_all before.file.0 x.file.0 (file_ids xs) less (all_above (place + 1) x xs rest.1))

  pub made_files_rise : (place : ℕ) (before : Option Made) (xs : List Made) → first_bad (is_bad_made m next) place before xs ≡ None → IsStrictlySortedBy nat_cmp (file_ids xs)
  unfolding IsStrictlySortedBy
  made_files_rise place before [] h = tt
  made_files_rise place before (x ∷ xs) h =
      let rest = none_bad place x xs (is_bad_made m next before x) h in
      (all_above (place + 1) x xs rest.1, made_files_rise (place + 1) (Some x) xs rest.1)
