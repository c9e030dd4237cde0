-- No place is listed twice, of the links that were added and those that are gone.
use Rattle.std.proofs.Common.{◌≡◌, ℕ, ◌-◌, ◌==◌, Bool, true, false, not, eqb, if◌then◌else◌, List, [], ◌∷◌, ◌++◌, map, Option, Some, None, is_some, refl, sym, ap, subst, ◌∙◌, eq-eqb}
use Rattle.std.proofs.lemmas.Bool.{not-true}
use Rattle.std.proofs.lemmas.List.{map-append}
use Rattle.std.proofs.lemmas.List.Elements.{All-contains, All-from_recursion}
use Rattle.std.proofs.lemmas.List.Sorted.{Contains-permutation, IsPermutation-map, IsPermutation-sym}
use Rattle.std.proofs.lemmas.Map.Keys.{IsDistinct-from_sorted, IsDistinct-IsPermutation}
use Rattle.std.specs.Cmp.{eq_by_cmp_equiv}
use Rattle.std.specs.FinMap.{FinMap, entries, entries_sorted, get, get-entries}
use Rattle.std.specs.List.{AllByRecursion, IsDistinct, cons_option, filter, list_any, slice_get}
use Rattle.std.specs.List.Sorted.{IsPermutation, IsSortedBy}
use Rattle.std.specs.Ordering.{eq_by_cmp, is_lt, nat_cmp}
use Rattle.eden_base.specs.declared.number.FileId.{FileId}
use Rattle.manifest.specs.declared.link_change.LinkChange.{LinkChange}
use Rattle.checkout.specs.declared.made.MadeFile.{MadeFile}
use Rattle.checkout.specs.Changes.{AreLinkChanges, IsLinkChange, place_of}
use Rattle.checkout.specs.BadChanges.{gives_same}
use Rattle.checkout.specs.Laying.{base_target}
use Rattle.checkout.specs.Listing.{differs, gone_change, gone_changes}
use Rattle.manifest.specs.Links.{added_change}
use Rattle.manifest.specs.Manifest.{Manifest}
use Rattle.checkout.specs.Overlay.{tree_over, AreParts}
use Rattle.manifest.specs.Tree.{Tree, child_of, link_cmp, links_from}
use Rattle.checkout.proofs.ChangeLists.{all_entries, all-map, all_weaker, distinct-append, keys_rise, rising_from_sorted}
use Rattle.manifest.proofs.FlatLemmas.{link_cmp_total, link_cmp-same}
use Rattle.checkout.proofs.FilterLaws.{contains-filter, distinct-filter, filter-contains}
use Rattle.checkout.proofs.FirstBadLaws.{gives_same_itself, same_if_so}
use Rattle.checkout.proofs.LinkChanges.{all_are, differing_there, line_of_gone}
use Rattle.manifest.proofs.ManifestTree.{file_with}
use Rattle.manifest.proofs.MapLemmas.{tied_key}

places_added : (es : List ((ℕ × List ℕ) × FileId)) → map place_of (map added_change es) ≡ map (λ (e : (ℕ × List ℕ) × FileId). e.0) es
places_added [] = refl
places_added (e ∷ es) = ap (λ ks. e.0 ∷ ks) (places_added es)

-- two places of which one has what the other hasn't
no_tie : (P : ℕ × List ℕ → Type 0) (x y : ℕ × List ℕ) → P x → (P y → ⊥) → eq_by_cmp link_cmp x y ≡ false
no_tie P x y h lacks =
    elim (eq_by_cmp link_cmp x y) as (λ b. eq_by_cmp link_cmp x y ≡ b → b ≡ false) [
      | false ↦ λ _. refl
      | true ↦ λ e. absurd (lacks (subst P (tied_key link_cmp-same x y e) h))
    ] refl

module _ (m : Manifest) (made : FinMap nat_cmp MadeFile) (added : FinMap link_cmp FileId) (gone : ℕ → Bool) (lost : ℕ → ℕ) (next : ℕ) (is : AreParts m made added gone lost) where
  abbrev tree : Tree
  tree = tree_over m made added gone next

  abbrev base : FinMap link_cmp FileId
  base = links_from 2 m.lines

  -- what is listed of a file that is gone
  record IsOf (file : ℕ) (place : ℕ × List ℕ) : Type 0 where
    pub was : get base place ≡ Some (file_with file)
    pub free : get added place ≡ None

  place_of_gone : (file : ℕ) (x : LinkChange) → gone file ≡ true → gone_change added (slice_get m.lines (file - 2)) ≡ Some x → IsOf file (place_of x)
  place_of_gone file x h place =
      let w = line_of_gone m made added gone lost next is file h in
      let line = w.0 in
      elim (get added (line.dir.0, line.name)) as (λ o. get added (line.dir.0, line.name) ≡ o → (if is_some o then None else Some (record { dir = line.dir; name = line.name; target = None })) ≡ Some x → IsOf file (place_of x)) [
        | Some f ↦ λ e k. absurd (cc)
        | None ↦ λ e k.
            let is_x : ◌≡◌ {A = LinkChange} (record { dir = line.dir; name = line.name; target = None }) x = cc in
            subst (λ y. IsOf file (place_of y)) is_x (record { was = w.2; free = e })
      ] refl (sym (ap (gone_change added) w.1) ∙ place)

  -- of each file one place, if any
  abbrev SomePlace : (ℕ → Type 0) → ℕ × List ℕ → Type 0
  SomePlace P place = (file : ℕ) × P file × IsOf file place

  one_more : (P : ℕ → Type 0) (o : Option LinkChange) (xs : List LinkChange) → ((x : LinkChange) → o ≡ Some x → SomePlace P (place_of x)) → AllByRecursion (SomePlace P) (map place_of xs) → AllByRecursion (SomePlace P) (map place_of (cons_option o xs))
  one_more P None xs h rest = rest
  one_more P (Some x) xs h rest = (h x refl, rest)

  places_gone : (P : ℕ → Type 0) (fs : List ℕ) → AllByRecursion (λ file. gone file ≡ true) fs → AllByRecursion P fs → AllByRecursion (SomePlace P) (map place_of (gone_changes added m.lines fs))
  places_gone P [] h all = tt
  places_gone P (f ∷ fs) h all =
      one_more P (gone_change added (slice_get m.lines (f - 2))) (gone_changes added m.lines fs) (λ x place. (f, all.0, place_of_gone f x h.0 place)) (places_gone P fs h.1 all.1)

  gone_distinct : (fs : List ℕ) → AllByRecursion (λ file. gone file ≡ true) fs → IsDistinct eqb fs → IsDistinct (eq_by_cmp link_cmp) (map place_of (gone_changes added m.lines fs))
  unfolding IsDistinct
  gone_distinct [] h apart = tt
  gone_distinct (f ∷ fs) h apart =
      let rest = gone_distinct fs h.1 apart.1 in
      let places = places_gone (λ g. eqb f g ≡ false) fs h.1 apart.0 in
      elim (gone_change added (slice_get m.lines (f - 2))) as (λ o. gone_change added (slice_get m.lines (f - 2)) ≡ o → IsDistinct (eq_by_cmp link_cmp) (map place_of (cons_option o (gone_changes added m.lines fs)))) [
        | None ↦ λ _. rest
        | Some x ↦ λ e.
            let here = place_of_gone f x h.0 e in (
              all_weaker (SomePlace (λ g. eqb f g ≡ false)) (λ y. eq_by_cmp link_cmp (place_of x) y ≡ false) (λ y w. no_tie (IsOf f) (place_of x) y here (λ there.
                  let both = sym there.was ∙ w.2.was in
                  let ids : file_with f ≡ file_with w.0 = cc in
                  let same = ap (λ (g : FileId). g.0) ids in
                  let equal = eq-eqb f w.0 same in
                  let other = w.1 in
                  cc (equal, other))) (map place_of (gone_changes added m.lines fs)) places,
              rest,
            )
      ] refl

  -- where a link was added, none that is gone is listed
  abbrev HasLink : ℕ × List ℕ → Type 0
  HasLink place = (file : FileId) × (get added place ≡ Some file)

  all_distinct : (files : List ℕ) → AllByRecursion (λ file. gone file ≡ true) files → IsDistinct eqb files → IsDistinct (eq_by_cmp link_cmp) (map place_of (map added_change (entries added) ++ gone_changes added m.lines files))
  all_distinct files are_gone apart =
      subst (IsDistinct (eq_by_cmp link_cmp)) (sym (map-append place_of (map added_change (entries added)) (gone_changes added m.lines files) ∙ ap (λ ks. ks ++ map place_of (gone_changes added m.lines files)) (places_added (entries added))))
      (distinct-append (eq_by_cmp link_cmp) (map (λ (e : (ℕ × List ℕ) × FileId). e.0) (entries added)) (map place_of (gone_changes added m.lines files))
      (IsDistinct-from_sorted link_cmp (map (λ (e : (ℕ × List ℕ) × FileId). e.0) (entries added)) (keys_rise link_cmp (entries added) (entries_sorted added)))
      (gone_distinct files are_gone apart)
      (all-map _ (λ (e : (ℕ × List ℕ) × FileId). e.0) (entries added) (all_entries link_cmp_total _ (entries added) (entries_sorted added) (λ k v found. shares_none k v (get-entries added k ∙ found)))))
    where
      all_gone : (fs : List ℕ) → AllByRecursion (λ (f : ℕ). Unit {0}) fs
      all_gone [] = tt
      all_gone (f ∷ fs) = (tt, all_gone fs)

      shares_none : (k : ℕ × List ℕ) (v : FileId) → get added k ≡ Some v → AllByRecursion (λ y. eq_by_cmp link_cmp k y ≡ false) (map place_of (gone_changes added m.lines files))
      shares_none k v here =
          all_weaker (SomePlace (λ _. Unit {0})) (λ y. eq_by_cmp link_cmp k y ≡ false) (λ y w. no_tie HasLink k y (v, here) (λ there. let a = there.1 in let b = w.2.free in cc (a, b)))
          (map place_of (gone_changes added m.lines files)) (places_gone (λ _. Unit {0}) files are_gone (all_gone files))

  -- a link of the tree differs from the manifest's where it is told apart
  is_change : (x : LinkChange) → x.target ≡ child_of tree x.dir x.name → differs m x ≡ true → IsLinkChange tree x
  is_change x is_link told = record {
    target = is_link;
    differs = λ same. let alike = ap (λ o. gives_same o (base_target m x)) same ∙ gives_same_itself (base_target m x) in let apart = not-true (gives_same x.target (base_target m x)) told in cc (alike, apart);
  }

  is_told : (x : LinkChange) → IsLinkChange tree x → differs m x ≡ true
  is_told x is_change =
      elim (gives_same x.target (base_target m x)) as (λ b. gives_same x.target (base_target m x) ≡ b → not b ≡ true) [
        | false ↦ λ _. refl
        | true ↦ λ e. absurd (is_change.differs (same_if_so x.target (base_target m x) e))
      ] refl

  -- the links of both lists that differ, in order of their places
  pub AreLinkChanges-over : (files : List ℕ) (listed links : List LinkChange) → ((q : ℕ) → gone q ≡ list_any (λ f. q == f) files) → IsDistinct eqb files → AllByRecursion (λ file. gone file ≡ true) files →
      IsPermutation (map added_change (entries added) ++ gone_changes added m.lines files) listed → IsPermutation (filter (differs m) listed) links →
      IsSortedBy (λ a b. is_lt (link_cmp (place_of a) (place_of b))) links → AreLinkChanges tree links
  AreLinkChanges-over files listed links are_files apart are_gone first moved sorted =
      let all = map added_change (entries added) ++ gone_changes added m.lines files in
      let left = filter (differs m) listed in
      let are = All-from_recursion (λ (x : LinkChange). x.target ≡ child_of tree x.dir x.name) all (all_are m made added gone lost next is files are_gone) in
      let places = IsDistinct-IsPermutation (eq_by_cmp link_cmp) (λ x y. (eq_by_cmp_equiv link_cmp_total).symm x y) (map place_of all) (map place_of listed) (IsPermutation-map place_of all listed first) (all_distinct files are_gone apart) in
      record {
        rising = rising_from_sorted link_cmp_total place_of left links (record { dir = file_with 0; name = []; target = None }) moved sorted (distinct-filter (eq_by_cmp link_cmp) place_of (differs m) listed places);
        each = λ x. (
          λ h.
              let in_left = Contains-permutation links left x (IsPermutation-sym left links moved) h in
              let w = contains-filter (differs m) listed x in_left in
              is_change x (All-contains (λ (y : LinkChange). y.target ≡ child_of tree y.dir y.name) all x are (Contains-permutation listed all x (IsPermutation-sym all listed first) w.0)) w.1,
          λ h.
              let in_listed = Contains-permutation all listed x first (differing_there m made added gone lost next is files are_files x h) in
              Contains-permutation left links x moved (filter-contains (differs m) listed x in_listed (is_told x h)),
        );
      }
