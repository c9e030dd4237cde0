-- A link that is above itself is one whose target stands on a circle; and it is so by a list of links as by a map.
use Rattle.std.proofs.Common.{◌≡◌, ◌==◌, ◌+◌, ◌<◌, ℕ, Bool, true, false, List, [], ◌∷◌, Option, Some, None, refl, sym, ap, subst, ◌∙◌, inl, inr, arith}
use Rattle.std.proofs.lemmas.Bool.Decides.{nat_tests}
use Rattle.std.specs.FinMap.{FinMap, get}
use Rattle.std.specs.List.{slice_get}
use Rattle.std.specs.Option.{option_and_then}
use Rattle.std.specs.Ordering.{nat_cmp}
use Rattle.eden_base.specs.declared.number.FileId.{FileId}
use Rattle.checkout.specs.declared.changes.Changes.{Changes}
use Rattle.manifest.specs.declared.link_change.LinkChange.{LinkChange}
use Rattle.checkout.specs.Around.{end_of, AreApart, AreRight, GivesTarget, IsAbove, IsFirstAbove, IsUnder, Leads}
use Rattle.checkout.specs.BadChanges.{bad_by_cut, changed_links, file_below, file_in, first_link, IsAboveItself, IsBadAround}
use Rattle.manifest.specs.Manifest.{Manifest}
use Rattle.manifest.specs.Tree.{link_cmp, StandsIn}
use Rattle.checkout.proofs.AroundPaths.{one_dir}

module _ (links : FinMap link_cmp FileId) (change : LinkChange) (file : FileId) (gives : GivesTarget links change) (target : change.target ≡ Some file) where
  target_stands : StandsIn links file change.dir
  target_stands = (change.name, gives ∙ target)

  -- the target of a link that is above itself stands on a circle
  pub under_from_above : IsAbove links change → IsUnder links file file
  under_from_above above =
      let same : above.0 ≡ file = let e = above.2 in cc (e, target) in
      let to : Leads links file change.dir = subst (λ (f : FileId). Leads links f change.dir) same (above.1, above.3) in
      record { dir = change.dir; to_dir = to; stands = target_stands }

  -- a link whose target stands on a circle is above itself
  pub above_from_under : AreApart links → IsUnder links file file → IsAbove links change
  above_from_under are on =
      let same : on.dir ≡ change.dir = one_dir links are file on.dir change.dir on.stands target_stands in
      let to : Leads links file change.dir = subst (λ (d : FileId). Leads links file d) same on.to_dir in
      (file, to.0, target, to.1)

  -- so the colour of its target tells whether it is
  pub colour_tells : AreApart links → (colours : FinMap nat_cmp Bool) → AreRight links colours → (colour : Bool) → get colours file.0 ≡ Some colour → (colour ≡ true → IsAbove links change) × (IsAbove links change → colour ≡ true)
  colour_tells are colours right true e = (λ _. above_from_under are (right.on file e), λ _. refl)
  colour_tells are colours right false e = (λ no. absurd (cc), λ above. absurd (right.off file e (under_from_above above)))

-- a target in which no link stands is above nothing
pub none_above_leaf : (links : FinMap link_cmp FileId) (change : LinkChange) (file : FileId) → GivesTarget links change → change.target ≡ Some file → ((name : List ℕ) → get links (file.0, name) ≡ None) → IsAbove links change → ⊥
none_above_leaf links change file gives target none above =
    let same : above.0 ≡ file = let e = above.2 in cc (e, target) in
    let to : end_of links file above.1 ≡ Some change.dir = subst (λ (f : FileId). end_of links f above.1 ≡ Some change.dir) same above.3 in
    down above.1 to
  where
    down : (names : List (List ℕ)) → end_of links file names ≡ Some change.dir → ⊥
    down [] to =
        let here : file ≡ change.dir = cc in
        let empty = ap (λ (f : FileId). get links (f.0, change.name)) (sym here) ∙ none change.name in
        let full = gives ∙ target in
        cc (empty, full)
    down (name ∷ names) to =
        let gone = ap (λ o. option_and_then (λ (child : FileId). end_of links child names) o) (none name) in
        cc (gone, to)

module _ (m : Manifest) (c : Changes) (links : FinMap link_cmp FileId) (same : (place : ℕ × List ℕ) → file_in (changed_links m c) place ≡ get links place) where
  -- where the links at each place are the same, so are the files at the end of names
  pub file_below-end_of : (dir : FileId) (names : List (List ℕ)) → file_below (changed_links m c) dir names ≡ end_of links dir names
  file_below-end_of dir [] = refl
  file_below-end_of dir (name ∷ names) =
      ap (λ o. option_and_then (λ (child : FileId). file_below (changed_links m c) child names) o) (same (dir.0, name))
      ∙ (elim (get links (dir.0, name)) as (λ o. option_and_then (λ (child : FileId). file_below (changed_links m c) child names) o ≡ option_and_then (λ (child : FileId). end_of links child names) o) [
        | None ↦ refl
        | Some child ↦ file_below-end_of child names
      ])

  -- so a change is above itself by the one where it is by the other
  pub above_itself-is : (change : LinkChange) → (IsAboveItself (changed_links m c) change → IsAbove links change) × (IsAbove links change → IsAboveItself (changed_links m c) change)
  above_itself-is change =
      (λ above. (above.0, above.1, above.2, sym (file_below-end_of above.0 above.1) ∙ above.3), λ above. (above.0, above.1, above.2, file_below-end_of above.0 above.1 ∙ above.3))

  -- the first link above itself is the first bad change around
  pub above-IsBadAround : (place : ℕ) → IsFirstAbove links c.links (Some place) → IsBadAround m c (Some (first_link c + place))
  above-IsBadAround place first =
      inl (place, first.0, refl, first.1, (above_itself-is first.0).1 first.2, λ before other within here above. first.3 before other within here ((above_itself-is other).0 above))

  -- where none is, it is the first that is cut off
  pub none_above-IsBadAround : (bad : Option ℕ) → IsFirstAbove links c.links None → bad ≡ bad_by_cut m c → IsBadAround m c bad
  none_above-IsBadAround bad none is = inr (is, λ place change here above. none place change here ((above_itself-is change).0 above))

-- the first of some links is above itself, where none before it is
pub first_at : (links : FinMap link_cmp FileId) (changes : List LinkChange) (place : ℕ) (change : LinkChange) → slice_get changes place ≡ Some change → IsAbove links change →
    ((before : ℕ) (other : LinkChange) → before < place → slice_get changes before ≡ Some other → IsAbove links other → ⊥) → IsFirstAbove links changes (Some place)
first_at links changes place change here above none = (change, here, above, none)

-- nor is the next
pub none_so_far : (links : FinMap link_cmp FileId) (changes : List LinkChange) (place : ℕ) (change : LinkChange) → slice_get changes place ≡ Some change → (IsAbove links change → ⊥) →
    ((before : ℕ) (other : LinkChange) → before < place → slice_get changes before ≡ Some other → IsAbove links other → ⊥) →
    (before : ℕ) (other : LinkChange) → before < place + 1 → slice_get changes before ≡ Some other → IsAbove links other → ⊥
none_so_far links changes place change here not_above none before other within there above =
    elim (before == place) as (λ b. (before == place) ≡ b → ⊥) [
      | true ↦ λ e.
          let same : before ≡ place = grind (arith, nat_tests) in
          let at = ap (slice_get changes) same in
          not_above (subst (λ (x : LinkChange). IsAbove links x) (let s : other ≡ change = cc in s) above)
      | false ↦ λ e. none before other (grind (arith, nat_tests)) there above
    ] refl
