-- Where no change is bad behind the one before it, each is good, and their places rise.
use Rattle.std.proofs.Common.{◌≡◌, ℕ, ◌+◌, ◌<◌, ◌==◌, ◌||◌, Bool, true, false, not, nat_lt, cond, if◌then◌else◌, List, [], ◌∷◌, map, Option, Some, None, refl, ap, arith, eq-eqb}
use Rattle.std.proofs.lemmas.Bool.Decides.{nat_tests}
use Rattle.std.specs.Cmp.{IsTotalOrder, nat_cmp_total}
use Rattle.std.specs.List.{AllByRecursion}
use Rattle.std.specs.List.Sorted.{IsStrictlySortedBy}
use Rattle.std.specs.Option.{option_or}
use Rattle.std.specs.Ordering.{is_lt, nat_cmp}
use Rattle.std.specs.declared.cmp.Ordering.{Ordering}
use Rattle.std.specs.declared.cmp.Ordering.TheVariants.{Less, Equal, Greater}
use Rattle.eden_base.specs.Limits.{end_of_files}
use Rattle.eden_base.specs.declared.number.FileId.{FileId}
use Rattle.checkout.specs.declared.changes.Changes.{Changes}
use Rattle.manifest.specs.declared.link_change.LinkChange.{LinkChange}
use Rattle.checkout.specs.declared.changes.Made.{Made}
use Rattle.checkout.specs.BadChanges.{bad_itself, first_bad, first_link, gives_same, is_bad_link, is_bad_made, is_behind, is_target, kind_with, last_file, manifest_target, rises}
use Rattle.checkout.specs.Changes.{file_ids, place_of}
use Rattle.manifest.specs.Manifest.{Manifest}
use Rattle.manifest.specs.Tree.{is_dir, link_cmp}
use Rattle.checkout.proofs.ChangeLists.{all_weaker}
use Rattle.manifest.proofs.FlatLemmas.{link_cmp_total}
use Rattle.manifest.proofs.ManifestTree.{same_id}

step_good : {X : Type 0} (bad : Option X → X → Bool) (i : ℕ) (before : Option X) (x : X) (xs : List X) → first_bad bad i before (x ∷ xs) ≡ None → (bad before x ≡ false) × (first_bad bad (i + 1) (Some x) xs ≡ None)
step_good bad i before x xs h =
    elim (bad before x) as (λ b. (if b then Some i else first_bad bad (i + 1) (Some x) xs) ≡ None → (b ≡ false) × (first_bad bad (i + 1) (Some x) xs ≡ None)) [
      | true ↦ λ g. absurd (cc)
      | false ↦ λ g. (refl, g)
    ] h

-- what the test says of one that isn't bad holds of each
pub all_good : {X : Type 0} (bad : Option X → X → Bool) (P : X → Type 0) → ((before : Option X) (x : X) → bad before x ≡ false → P x) → (i : ℕ) (before : Option X) (xs : List X) → first_bad bad i before xs ≡ None → AllByRecursion P xs
all_good bad P good i before [] h = tt
all_good bad P good i before (x ∷ xs) h =
    let w = step_good bad i before x xs h in
    (good before x w.0, all_good bad P good (i + 1) (Some x) xs w.1)

module _ {X K : Type 0} {R : K → K → Ordering} (o : IsTotalOrder R) (place : X → K) (bad : Option X → X → Bool) (up : (a x : X) → bad (Some a) x ≡ false → R (place a) (place x) ≡ Less) where
  all_behind : (i : ℕ) (before : X) (xs : List X) → first_bad bad i (Some before) xs ≡ None → AllByRecursion (λ k. R (place before) k ≡ Less) (map place xs)
  all_behind i before [] h = tt
  all_behind i before (x ∷ xs) h =
      let w = step_good bad i (Some before) x xs h in
      let here = up before x w.0 in
      (here, all_weaker (λ k. R (place x) k ≡ Less) (λ k. R (place before) k ≡ Less) (λ k. o.trans (place before) (place x) k here) (map place xs) (all_behind (i + 1) x xs w.1))

  -- a test that wants each place behind the one before it
  all_rise : (i : ℕ) (before : Option X) (xs : List X) → first_bad bad i before xs ≡ None → IsStrictlySortedBy R (map place xs)
  unfolding IsStrictlySortedBy
  all_rise i before [] h = tt
  all_rise i before (x ∷ xs) h = let w = step_good bad i before x xs h in (all_behind (i + 1) x xs w.1, all_rise (i + 1) (Some x) xs w.1)

-- a link that is not bad: where it stands, what it gives, and that the manifest has something else there
pub record IsGoodLink (m : Manifest) (made : List Made) (change : LinkChange) : Type 0 where
  pub dir : is_dir (kind_with m made change.dir) ≡ true
  pub target : is_target m made change.target ≡ true
  pub differs : gives_same change.target (manifest_target m change) ≡ false

none_of_four : (a b c d : Bool) → (not a || not b || not c || d) ≡ false → (a ≡ true) × (b ≡ true) × (c ≡ true) × (d ≡ false)
none_of_four true true true false h = (refl, refl, refl, refl)
none_of_four true true true true h = absurd (cc)
none_of_four true true false d h = absurd (cc)
none_of_four true false c d h = absurd (cc)
none_of_four false b c d h = absurd (cc)

good_link : (m : Manifest) (made : List Made) (before : Option LinkChange) (change : LinkChange) → is_bad_link m made before change ≡ false → IsGoodLink m made change
good_link m made before change h =
    let w = none_of_four (is_behind before change) (is_dir (kind_with m made change.dir)) (is_target m made change.target) (gives_same change.target (manifest_target m change)) h in
    record { dir = w.1; target = w.2; differs = w.3 }

less : (r : Ordering) → is_lt r ≡ true → r ≡ Less
less Less h = refl
less Equal h = absurd (cc)
less Greater h = absurd (cc)

link_behind : (m : Manifest) (made : List Made) (before change : LinkChange) → is_bad_link m made (Some before) change ≡ false → link_cmp (place_of before) (place_of change) ≡ Less
link_behind m made before change h =
    less (link_cmp (place_of before) (place_of change)) (none_of_four (is_behind (Some before) change) (is_dir (kind_with m made change.dir)) (is_target m made change.target) (gives_same change.target (manifest_target m change)) h).0

module _ (m : Manifest) (made : List Made) (i : ℕ) (links : List LinkChange) (none : first_bad (is_bad_link m made) i None links ≡ None) where
  pub links_good : AllByRecursion (IsGoodLink m made) links
  links_good = all_good (is_bad_link m made) (IsGoodLink m made) (good_link m made) i None links none

  pub places_rise : IsStrictlySortedBy link_cmp (map place_of links)
  places_rise = all_rise link_cmp_total place_of (is_bad_link m made) (link_behind m made) i None links none

-- a made file that is not bad comes after the manifest's, below the next
pub record IsGoodMade (m : Manifest) (next : FileId) (made : Made) : Type 0 where
  pub later : last_file m < made.file.0
  pub below : made.file.0 < next.0

none_of_three : (a b c : Bool) → (not a || not b || not c) ≡ false → (a ≡ true) × (b ≡ true) × (c ≡ true)
none_of_three true true true h = (refl, refl, refl)
none_of_three true true false h = absurd (cc)
none_of_three true false c h = absurd (cc)
none_of_three false b c h = absurd (cc)

good_made : (m : Manifest) (next : FileId) (before : Option Made) (made : Made) → is_bad_made m next before made ≡ false → IsGoodMade m next made
good_made m next before made h =
    let w = none_of_three (rises before made) (nat_lt (last_file m) made.file.0) (nat_lt made.file.0 next.0) h in
    let low = w.1 in
    let high = w.2 in
    record { later = grind (arith, nat_tests); below = grind (arith, nat_tests) }

made_rises : (m : Manifest) (next : FileId) (before made : Made) → is_bad_made m next (Some before) made ≡ false → nat_cmp before.file.0 made.file.0 ≡ Less
made_rises m next before made h =
    let w = none_of_three (rises (Some before) made) (nat_lt (last_file m) made.file.0) (nat_lt made.file.0 next.0) h in
    ap (λ b. cond b Less (cond (before.file.0 == made.file.0) Equal Greater)) w.0

module _ (m : Manifest) (next : FileId) (i : ℕ) (made : List Made) (none : first_bad (is_bad_made m next) i None made ≡ None) where
  pub made_good : AllByRecursion (IsGoodMade m next) made
  made_good = all_good (is_bad_made m next) (IsGoodMade m next) (good_made m next) i None made none

  pub ids_rise : IsStrictlySortedBy nat_cmp (file_ids made)
  ids_rise = all_rise nat_cmp_total (λ (x : Made). x.file.0) (is_bad_made m next) (made_rises m next) i None made none

-- what gives the same as itself
pub gives_same_itself : (o : Option FileId) → gives_same o o ≡ true
gives_same_itself None = refl
gives_same_itself (Some f) = eq-eqb f.0 f.0 refl

-- and what gives the same is the same
pub same_if_so : (o p : Option FileId) → gives_same o p ≡ true → o ≡ p
same_if_so None None h = refl
same_if_so (Some f) (Some g) h = let id : f.0 ≡ g.0 = grind (arith, nat_tests) in ap (λ x. Some x) (same_id f g id)
same_if_so None (Some g) h = absurd (cc)
same_if_so (Some f) None h = absurd (cc)

-- the first round finds nothing: neither the next file nor a made one nor a link is bad by itself
pub record IsGoodItself (m : Manifest) (c : Changes) : Type 0 where
  pub next_after : nat_lt (last_file m) c.next_file.0 ≡ true
  pub next_fits : nat_lt end_of_files c.next_file.0 ≡ false
  pub made : first_bad (is_bad_made m c.next_file) 1 None c.made ≡ None
  pub links : first_bad (is_bad_link m c.made) (first_link c) None c.links ≡ None

pub good_itself : (m : Manifest) (c : Changes) → bad_itself m c ≡ None → IsGoodItself m c
good_itself m c h = by_cases (nat_lt (last_file m) c.next_file.0) (nat_lt end_of_files c.next_file.0) (first_bad (is_bad_made m c.next_file) 1 None c.made) refl refl refl h
  where
    by_cases : (a b : Bool) (o : Option ℕ) → nat_lt (last_file m) c.next_file.0 ≡ a → nat_lt end_of_files c.next_file.0 ≡ b → first_bad (is_bad_made m c.next_file) 1 None c.made ≡ o →
        (if not a || b then Some 0 else option_or o (first_bad (is_bad_link m c.made) (first_link c) None c.links)) ≡ None → IsGoodItself m c
    by_cases false b o g k l none = absurd (cc)
    by_cases true true o g k l none = absurd (cc)
    by_cases true false (Some place) g k l none = absurd (cc)
    by_cases true false None g k l none = record { next_after = g; next_fits = k; made = l; links = none }
