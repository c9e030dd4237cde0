-- Where no change cuts a directory off each directory with a link in it stands in another, or is the root.
use Rattle.std.proofs.Common.{◌≡◌, ◌+◌, ◌==◌, ◌&&◌, ◌||◌, ℕ, suc, Bool, true, false, not, cond, List, [], ◌∷◌, Some, None, refl, sym, ap, subst, ◌∙◌, inl, inr, arith, eq-eqb}
use Rattle.std.proofs.lemmas.Bool.{not-true, or_parts}
use Rattle.std.proofs.lemmas.Bool.Decides.{nat_tests}
use Rattle.std.specs.FinMap.{FinMap, get}
use Rattle.std.specs.List.{AllByRecursion, Contains, cons_option, filter, filter_map, list_any, slice_get}
use Rattle.std.specs.Option.{option_map}
use Rattle.eden_base.specs.declared.number.FileId.{FileId}
use Rattle.checkout.specs.declared.changes.Changes.{Changes}
use Rattle.manifest.specs.declared.link_change.LinkChange.{LinkChange}
use Rattle.checkout.specs.BadChanges.{Link, bad_by_cut, changed_links, file_does, first_bad, first_link, given, has_names, is_bad_link, is_cut_off, is_given, lines_links, manifest_target}
use Rattle.checkout.specs.Changed.{changed}
use Rattle.checkout.specs.Changes.{AreLinkChanges, place_of}
use Rattle.manifest.specs.Manifest.{IsManifest, Line, Manifest}
use Rattle.manifest.specs.Tree.{Tree, child_of, link_cmp, links_from, tree_of}
use Rattle.checkout.proofs.ChangeLists.{all-append, all_of}
use Rattle.checkout.proofs.ChangedAround.{holds_of_none}
use Rattle.checkout.proofs.ChangedLinks.{any_link, lines_links-get, touched, untouched}
use Rattle.checkout.proofs.ChangedMaps.{changed_has_links, changed_links-changed, stands_or_same}
use Rattle.checkout.proofs.CircleLaws.{dir_is_linked}
use Rattle.checkout.proofs.LinkLaws.{child_from_linked}
use Rattle.manifest.proofs.ManifestIsTree.{tree_of-IsTree}
use Rattle.manifest.proofs.ManifestTree.{file_with, link_of_line, same_id}
use Rattle.manifest.proofs.MoreLines.{apart}

-- what holds of the link of each line
each_line : (P : Link → Type 0) (id : ℕ) (lines : List Line) → ((i : ℕ) (line : Line) → slice_get lines i ≡ Some line → P ((line.dir.0, line.name), file_with (id + i))) → AllByRecursion P (lines_links id lines)
each_line P id [] h = tt
each_line P id (l ∷ ls) h = (
  subst (λ n. P ((l.dir.0, l.name), file_with n)) (omega arith) (h 0 l refl),
  each_line P (id + 1) ls (λ i line e. subst (λ n. P ((line.dir.0, line.name), file_with n)) (omega arith) (h (suc i) line e)),
)

all_filtered : (P : Link → Type 0) (test : Link → Bool) (xs : List Link) → AllByRecursion (λ x. test x ≡ true → P x) xs → AllByRecursion P (filter test xs)
all_filtered P test [] h = tt
all_filtered P test (x ∷ xs) h =
    elim (test x) as (λ b. test x ≡ b → AllByRecursion P (cond b (x ∷ filter test xs) (filter test xs))) [
      | true ↦ λ e. (h.0 e, all_filtered P test xs h.1)
      | false ↦ λ _. all_filtered P test xs h.1
    ] refl

-- one that passes, and what holds of all
pub passing_one : (P : Link → Type 0) (test : Link → Bool) (xs : List Link) → AllByRecursion P xs → list_any test xs ≡ true → (x : Link) × P x × (test x ≡ true)
passing_one P test [] all h = absurd (cc)
passing_one P test (x ∷ xs) all h =
    elim (test x) as (λ b. test x ≡ b → (b || list_any test xs) ≡ true → (y : Link) × P y × (test y ≡ true)) [
      | true ↦ λ e _. (x, all.0, e)
      | false ↦ λ _ g. passing_one P test xs all.1 g
    ] refl h

-- the links that changes give
each_given : (P : Link → Type 0) (xs : List LinkChange) → AllByRecursion (λ x. (file : FileId) → x.target ≡ Some file → P (place_of x, file)) xs → AllByRecursion P (filter_map given xs)
each_given P [] h = tt
each_given P (x ∷ xs) h =
    elim x.target as (λ o. x.target ≡ o → AllByRecursion P (cons_option (option_map (λ (file : FileId). (place_of x, file)) o) (filter_map given xs))) [
      | None ↦ λ _. each_given P xs h.1
      | Some file ↦ λ e. (h.0 file e, each_given P xs h.1)
    ] refl

-- the tree gives what the link gives
abbrev pub Stands : Tree → Link → Type 0
Stands t link = get t.links link.0 ≡ Some link.1

-- each of the changed links stands in the tree
pub each_link : (t : Tree) (c : Changes) → IsManifest t.manifest → AreLinkChanges t c.links → AllByRecursion (Stands t) (changed_links t.manifest c)
each_link t c is has =
    all-append (Stands t) (filter keep (lines_links 2 t.manifest.lines)) (filter_map given c.links)
    (all_filtered (Stands t) keep (lines_links 2 t.manifest.lines) (each_line (λ link. keep link ≡ true → Stands t link) 2 t.manifest.lines kept))
    (each_given (Stands t) c.links (all_of Gives c.links (λ x h file e. sym ((has.each x).0 h).target ∙ e)))
  where
    keep : Link → Bool
    keep link = not (touched t c has link.0)

    kept : (i : ℕ) (line : Line) → slice_get t.manifest.lines i ≡ Some line → not (touched t c has (line.dir.0, line.name)) ≡ true → get t.links (line.dir.0, line.name) ≡ Some (file_with (2 + i))
    kept i line here k =
        let place : ℕ × List ℕ = (line.dir.0, line.name) in
        sym (untouched t c has place (not-true (touched t c has place) k)) ∙ link_of_line t.manifest.lines 2 i line (apart t.manifest.lines is.lines) here

    Gives : LinkChange → Type 0
    Gives x = (file : FileId) → x.target ≡ Some file → Stands t (place_of x, file)

module _ (m : Manifest) (c : Changes) (is : IsManifest m) (none : first_bad (is_bad_link m c.made) (first_link c) None c.links ≡ None) where
  abbrev tree : Tree
  tree = changed m c

  abbrev base : FinMap link_cmp FileId
  base = links_from 2 m.lines

  abbrev links : List Link
  links = changed_links m c

  has : AreLinkChanges tree c.links
  has = changed_has_links m c none

  -- what is given stands somewhere
  stands_somewhere : (dir : FileId) → is_given links dir ≡ true → (above : FileId) × (own : List ℕ) × (child_of tree above own ≡ Some dir)
  stands_somewhere dir h =
      let w = passing_one (Stands tree) (λ (link : Link). link.1.0 == dir.0) links (each_link tree c is has) h in
      let passes = w.2 in
      let same : w.0.1.0 ≡ dir.0 = grind (arith, nat_tests) in
      (file_with w.0.0.0, w.0.0.1, w.1 ∙ ap (λ f. Some f) (same_id w.0.1 dir same))

  -- a directory with a link in it that is not cut off
  linked_up : (dir : FileId) (name : List ℕ) (file : FileId) → child_of tree dir name ≡ Some file → (dir.0 == 1) ≡ false → is_cut_off links dir ≡ false → (above : FileId) × (own : List ℕ) × (child_of tree above own ≡ Some dir)
  linked_up dir name file h other uncut =
      elim (is_given links dir) as (λ b. is_given links dir ≡ b → (above : FileId) × (own : List ℕ) × (child_of tree above own ≡ Some dir)) [
        | true ↦ λ e. stands_somewhere dir e
        | false ↦ λ e.
            let named : has_names links dir ≡ true = any_link (λ (link : Link). link.0.0 == dir.0) links (dir.0, name) file (eq-eqb dir.0 dir.0 refl) (changed_links-changed m c none (dir.0, name) ∙ h) in
            let cut : is_cut_off links dir ≡ true = ap (λ b. not b && not (is_given links dir) && has_names links dir) other ∙ ap (λ b. not b && has_names links dir) e ∙ named in
            absurd (cc (cut, uncut))
      ] refl

  module _ (by_cut : bad_by_cut m c ≡ None) where
    not_cut : (x : LinkChange) → Contains c.links x → (is_cut_off links x.dir ≡ false) × (file_does (is_cut_off links) (manifest_target m x) ≡ false)
    not_cut x h =
        or_parts (is_cut_off links x.dir) (file_does (is_cut_off links) (manifest_target m x))
        (holds_of_none (λ change. is_cut_off links change.dir || file_does (is_cut_off links) (manifest_target m change)) c by_cut x h)

    -- a directory with a link in it is the root or stands in another
    pub one_above : (dir : FileId) (name : List ℕ) (file : FileId) → child_of tree dir name ≡ Some file → (dir.0 == 1) ≡ false → (above : FileId) × (own : List ℕ) × (child_of tree above own ≡ Some dir)
    one_above dir name file h other =
        elim (stands_or_same base c.links (dir.0, name)) [
          | inr r ↦
              let at = same_id r.change.dir dir (ap (λ (k : ℕ × List ℕ). k.0) r.here) in
              linked_up dir name file h other (ap (is_cut_off links) (sym at) ∙ (not_cut r.change r.listed).0)
          | inl same ↦
              let first = child_from_linked (tree_of m) dir (dir_is_linked (tree_of m) (tree_of-IsTree m is) dir name file (sym same ∙ h) other) in
              elim (stands_or_same base c.links (first.0.0, first.1)) [
                | inl stays ↦ (first.0, first.1, stays ∙ first.2)
                | inr r ↦
                    let was : manifest_target m r.change ≡ Some dir = lines_links-get 2 m.lines (place_of r.change) ∙ ap (get base) r.here ∙ first.2 in
                    linked_up dir name file h other (ap (file_does (is_cut_off links)) (sym was) ∙ (not_cut r.change r.listed).1)
              ]
        ]
