-- Where places rise and each change is good, none is bad behind the one before it.
use Rattle.std.proofs.Common.{◌≡◌, ℕ, ◌+◌, ◌==◌, ◌||◌, Bool, true, false, not, nat_lt, cond, if◌then◌else◌, List, [], ◌∷◌, map, Option, Some, None, refl, ap, ◌∙◌, arith}
use Rattle.std.proofs.lemmas.Bool.Decides.{nat_tests}
use Rattle.std.proofs.lemmas.Map.Keys.{sorted_head, sorted_tail}
use Rattle.std.specs.List.{AllByRecursion}
use Rattle.std.specs.List.Sorted.{IsStrictlySortedBy}
use Rattle.std.specs.Ordering.{is_lt, nat_cmp}
use Rattle.std.specs.declared.cmp.Ordering.{Ordering}
use Rattle.std.specs.declared.cmp.Ordering.TheVariants.{Less, Equal, Greater}
use Rattle.eden_base.specs.declared.number.FileId.{FileId}
use Rattle.manifest.specs.declared.link_change.LinkChange.{LinkChange}
use Rattle.checkout.specs.declared.changes.Made.{Made}
use Rattle.checkout.specs.BadChanges.{first_bad, gives_same, is_bad_link, is_bad_made, is_behind, is_target, kind_with, last_file, manifest_target, rises}
use Rattle.checkout.specs.Changes.{file_ids, place_of}
use Rattle.manifest.specs.Manifest.{Manifest}
use Rattle.manifest.specs.Tree.{is_dir, link_cmp}
use Rattle.checkout.proofs.FirstBadLaws.{IsGoodLink, IsGoodMade}

-- nothing is found where no test passes
pub none_found : {X : Type 0} (test : X → Bool) (i : ℕ) (before : Option X) (xs : List X) → AllByRecursion (λ x. test x ≡ false) xs → first_bad (λ _ x. test x) i before xs ≡ None
none_found test i before [] h = refl
none_found test i before (x ∷ xs) h = ap (λ b. if b then Some i else first_bad (λ _ y. test y) (i + 1) (Some x) xs) h.0 ∙ none_found test (i + 1) (Some x) xs h.1

module _ {X K : Type 0} (R : K → K → Ordering) (place : X → K) (bad : Option X → X → Bool) (P : X → Type 0)
    (alone : (x : X) → P x → bad None x ≡ false) (behind : (a x : X) → R (place a) (place x) ≡ Less → P x → bad (Some a) x ≡ false) where
  none_bad_behind : (i : ℕ) (before : X) (xs : List X) → AllByRecursion (λ k. R (place before) k ≡ Less) (map place xs) → IsStrictlySortedBy R (map place xs) → AllByRecursion P xs → first_bad bad i (Some before) xs ≡ None
  none_bad_behind i before [] up rise all = refl
  none_bad_behind i before (x ∷ xs) up rise all =
      ap (λ b. if b then Some i else first_bad bad (i + 1) (Some x) xs) (behind before x up.0 all.0)
      ∙ none_bad_behind (i + 1) x xs (sorted_head R (place x) (map place xs) rise) (sorted_tail R (place x) (map place xs) rise) all.1

  -- where places rise and each is good nothing is bad
  none_bad : (i : ℕ) (xs : List X) → IsStrictlySortedBy R (map place xs) → AllByRecursion P xs → first_bad bad i None xs ≡ None
  none_bad i [] rise all = refl
  none_bad i (x ∷ xs) rise all =
      ap (λ b. if b then Some i else first_bad bad (i + 1) (Some x) xs) (alone x all.0)
      ∙ none_bad_behind (i + 1) x xs (sorted_head R (place x) (map place xs) rise) (sorted_tail R (place x) (map place xs) rise) all.1

not_one_of_three : (a b c : Bool) → a ≡ true → b ≡ true → c ≡ true → (not a || not b || not c) ≡ false
not_one_of_three true true true g h k = refl
not_one_of_three true true false g h k = absurd (cc)
not_one_of_three true false c g h k = absurd (cc)
not_one_of_three false b c g h k = absurd (cc)

pub made_not_bad : (m : Manifest) (next : FileId) (i : ℕ) (made : List Made) → IsStrictlySortedBy nat_cmp (file_ids made) → AllByRecursion (IsGoodMade m next) made → first_bad (is_bad_made m next) i None made ≡ None
made_not_bad m next i made rise good = none_bad nat_cmp (λ (x : Made). x.file.0) (is_bad_made m next) (IsGoodMade m next) (λ x h. one None x h refl) (λ a x up h. one (Some a) x h (below a.file.0 x.file.0 up)) i made rise good
  where
    one : (before : Option Made) (x : Made) → IsGoodMade m next x → rises before x ≡ true → is_bad_made m next before x ≡ false
    one before x h up =
        let low = h.later in
        let high = h.below in
        not_one_of_three (rises before x) (nat_lt (last_file m) x.file.0) (nat_lt x.file.0 next.0) up (grind (arith, nat_tests)) (grind (arith, nat_tests))

    below : (a b : ℕ) → nat_cmp a b ≡ Less → nat_lt a b ≡ true
    below a b h =
        elim (nat_lt a b) as (λ c. cond c Less (cond (a == b) Equal Greater) ≡ Less → c ≡ true) [
          | true ↦ λ _. refl
          | false ↦ λ g. elim (a == b) as (λ d. cond d Equal Greater ≡ Less → false ≡ true) [ true ↦ λ k. absurd (cc) | false ↦ λ k. absurd (cc) ] g
        ] h

not_one_of_four : (a b c d : Bool) → a ≡ true → b ≡ true → c ≡ true → d ≡ false → (not a || not b || not c || d) ≡ false
not_one_of_four true true true false g h k l = refl
not_one_of_four true true true true g h k l = absurd (cc)
not_one_of_four true true false d g h k l = absurd (cc)
not_one_of_four true false c d g h k l = absurd (cc)
not_one_of_four false b c d g h k l = absurd (cc)

pub links_not_bad : (m : Manifest) (made : List Made) (i : ℕ) (links : List LinkChange) → IsStrictlySortedBy link_cmp (map place_of links) → AllByRecursion (IsGoodLink m made) links → first_bad (is_bad_link m made) i None links ≡ None
links_not_bad m made i links rise good = none_bad link_cmp place_of (is_bad_link m made) (IsGoodLink m made) (λ x h. one None x h refl) (λ a x up h. one (Some a) x h (ap is_lt up)) i links rise good
  where
    one : (before : Option LinkChange) (x : LinkChange) → IsGoodLink m made x → is_behind before x ≡ true → is_bad_link m made before x ≡ false
    one before x h up = not_one_of_four (is_behind before x) (is_dir (kind_with m made x.dir)) (is_target m made x.target) (gives_same x.target (manifest_target m x)) up h.dir h.target h.differs
