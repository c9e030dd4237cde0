-- Members whose places are in strict order rise, each above the one before it.
use Rattle.std.proofs.Common.{◌≡◌, ◌<◌, Bool, true, ◌&&◌, List, [], ◌∷◌, map, Option, Some, None, refl, sym, ap, ◌∙◌, arith}
use Rattle.std.proofs.lemmas.Bool.Decides.{nat_tests}
use Rattle.std.proofs.lemmas.Map.Keys.{sorted_head, sorted_tail}
use Rattle.std.specs.Cmp.{ranked}
use Rattle.std.specs.Cmp.Lexicographic.{slice_cmp}
use Rattle.std.specs.List.{AllByRecursion}
use Rattle.std.specs.List.Sorted.{IsStrictlySortedBy}
use Rattle.std.specs.Ordering.{nat_cmp, is_lt, ordering_then}
use Rattle.std.specs.declared.cmp.Ordering.{Ordering}
use Rattle.std.specs.declared.cmp.Ordering.TheVariants.{Less, Equal, Greater}
use Rattle.checkout.specs.Changes.{AreMade, AreLinkChanges, place_of}
use Rattle.manifest.specs.Tree.{Tree, link_cmp}
use Rattle.manifest.specs.declared.link_change.LinkChange.{LinkChange}
use Rattle.checkout.specs.declared.changes.Made.{Made}
use Rattle.map_image.specs.Fit.{rises, made_follows, link_follows}

module _ {X K : Type 0} (R : K → K → Ordering) (place : X → K) (follows : Option X → X → Bool)
    (first : (x : X) → follows None x ≡ true)
    (behind : (last x : X) → R (place last) (place x) ≡ Less → follows (Some last) x ≡ true) where
  rises_behind : (last : X) (xs : List X) → AllByRecursion (λ k. R (place last) k ≡ Less) (map place xs) → IsStrictlySortedBy R (map place xs) → rises follows (Some last) xs ≡ true
  rises_behind last [] above sorted = refl
  rises_behind last (x ∷ xs) above sorted =
      ap (λ (b : Bool). b && rises follows (Some x) xs) (behind last x above.0)
      ∙ rises_behind x xs (sorted_head R (place x) (map place xs) sorted) (sorted_tail R (place x) (map place xs) sorted)

  rises_in_order : (xs : List X) → IsStrictlySortedBy R (map place xs) → rises follows None xs ≡ true
  rises_in_order [] sorted = refl
  rises_in_order (x ∷ xs) sorted =
      ap (λ (b : Bool). b && rises follows (Some x) xs) (first x)
      ∙ rises_behind x xs (sorted_head R (place x) (map place xs) sorted) (sorted_tail R (place x) (map place xs) sorted)

-- a made file with a later id follows
made_behind : (last made : Made) → nat_cmp last.file.0 made.file.0 ≡ Less → made_follows (Some last) made ≡ true
made_behind last made less = let below : last.file.0 < made.file.0 = ranked last.file.0 made.file.0 Less (sym less) in grind (arith, nat_tests)

-- all files that were made rise
pub made_files_rise : (tree : Tree) (made : List Made) → AreMade tree made → rises made_follows None made ≡ true
made_files_rise tree made are = rises_in_order nat_cmp (λ (m : Made). m.file.0) made_follows (λ x. refl) made_behind made are.rising

-- a place in a later directory follows, and so does a later name in the same one
link_behind_by : (last link : LinkChange) (by_dir by_name : Ordering) → by_dir ≡ nat_cmp last.dir.0 link.dir.0 → by_name ≡ slice_cmp nat_cmp last.name link.name → ordering_then by_dir by_name ≡ Less → link_follows (Some last) link ≡ true
link_behind_by last link Less by_name dir name less =
    let below : last.dir.0 < link.dir.0 = ranked last.dir.0 link.dir.0 Less dir in grind (arith, nat_tests)
link_behind_by last link Equal by_name dir name less =
    let same : last.dir.0 ≡ link.dir.0 = ranked last.dir.0 link.dir.0 Equal dir in
    let later : is_lt (slice_cmp nat_cmp last.name link.name) ≡ true = ap is_lt (sym name ∙ less) in
    grind (arith, nat_tests)
link_behind_by last link Greater by_name dir name less = let never : ⊥ = cc in absurd never

link_behind : (last link : LinkChange) → link_cmp (place_of last) (place_of link) ≡ Less → link_follows (Some last) link ≡ true
link_behind last link less = link_behind_by last link (nat_cmp last.dir.0 link.dir.0) (slice_cmp nat_cmp last.name link.name) refl refl less

-- all names that changed rise
pub changed_links_rise : (tree : Tree) (links : List LinkChange) → AreLinkChanges tree links → rises link_follows None links ≡ true
changed_links_rise tree links are = rises_in_order link_cmp place_of link_follows (λ x. refl) link_behind links are.rising
