-- The links that were added and those that are gone, in a tree that is laid over a manifest's, are the tree's changes.
use Rattle.std.proofs.Common.{◌≡◌, ℕ, ◌-◌, ◌==◌, ◌||◌, Bool, true, false, if◌then◌else◌, List, [], ◌∷◌, ◌++◌, map, Option, Some, None, is_some, refl, sym, ap, subst, ◌∙◌, arith}
use Rattle.std.proofs.lemmas.Bool.Decides.{nat_tests}
use Rattle.std.proofs.lemmas.List.Elements.{Contains-append_left, Contains-append_right}
use Rattle.std.specs.FinMap.{FinMap, entries, entries_sorted, get, get-entries}
use Rattle.std.specs.List.{AllByRecursion, Contains, cons_option, list_any, slice_get}
use Rattle.std.specs.Option.{option_or}
use Rattle.std.specs.Ordering.{nat_cmp}
use Rattle.eden_base.specs.declared.number.FileId.{FileId}
use Rattle.manifest.specs.declared.link_change.LinkChange.{LinkChange}
use Rattle.checkout.specs.declared.made.MadeFile.{MadeFile}
use Rattle.checkout.specs.Changes.{IsLinkChange}
use Rattle.checkout.specs.Listing.{gone_change, gone_changes}
use Rattle.manifest.specs.Links.{added_change}
use Rattle.manifest.specs.Manifest.{Line, Manifest}
use Rattle.checkout.specs.Overlay.{still, tree_over, AreParts}
use Rattle.manifest.specs.Tree.{Tree, child_of, link_cmp, links_from}
use Rattle.checkout.proofs.ChangeLists.{all_entries, all-map, all-append, contains_found}
use Rattle.manifest.proofs.FlatLemmas.{link_cmp_total, link_cmp-same}
use Rattle.manifest.proofs.ManifestTree.{file_with, line_at, line_of_link, link_of_line, same_id}
use Rattle.manifest.proofs.MoreLines.{apart}
use Rattle.checkout.proofs.OverlayLaws.{child-over, child_added, within_lines}

-- the listing of one more file
listed_or_not : (P : LinkChange → Type 0) (o : Option LinkChange) (xs : List LinkChange) → ((x : LinkChange) → o ≡ Some x → P x) → AllByRecursion P xs → AllByRecursion P (cons_option o xs)
listed_or_not P None xs h rest = rest
listed_or_not P (Some x) xs h rest = (h x refl, rest)

-- the place of a file that is gone is listed
listed_there : (added : FinMap link_cmp FileId) (lines : List Line) (files : List ℕ) (file : ℕ) (x : LinkChange) → list_any (λ f. file == f) files ≡ true → gone_change added (slice_get lines (file - 2)) ≡ Some x → Contains (gone_changes added lines files) x
listed_there added lines [] file x h place = absurd (cc)
listed_there added lines (f ∷ fs) file x h place =
    elim (file == f) as (λ b. (file == f) ≡ b → (b || list_any (λ g. file == g) fs) ≡ true → Contains (gone_changes added lines (f ∷ fs)) x) [
      | true ↦ λ e _.
          let same : file ≡ f = grind (arith, nat_tests) in
          let here = sym (ap (λ g. gone_change added (slice_get lines (g - 2))) same) ∙ place in
          subst (λ o. Contains (cons_option o (gone_changes added lines fs)) x) (sym here) (0, omega arith, refl)
      | false ↦ λ _ k. behind (gone_change added (slice_get lines (f - 2))) (listed_there added lines fs file x k place)
    ] refl h
  where
    behind : (o : Option LinkChange) → Contains (gone_changes added lines fs) x → Contains (cons_option o (gone_changes added lines fs)) x
    behind None k = k
    behind (Some y) k = Contains-append_right (y ∷ []) (gone_changes added lines fs) x k

module _ (m : Manifest) (made : FinMap nat_cmp MadeFile) (added : FinMap link_cmp FileId) (gone : ℕ → Bool) (lost : ℕ → ℕ) (next : ℕ) (is : AreParts m made added gone lost) where
  abbrev tree : Tree
  tree = tree_over m made added gone next

  abbrev base : FinMap link_cmp FileId
  base = links_from 2 m.lines

  -- a file that is gone has a line, where its link was
  pub line_of_gone : (file : ℕ) → gone file ≡ true → (line : Line) × (slice_get m.lines (file - 2) ≡ Some line) × (get base (line.dir.0, line.name) ≡ Some (file_with file))
  line_of_gone file h =
      let w = within_lines m (file_with file) (is.gone_are_lines (file_with file) h) in
      let at = line_at m.lines (file - 2) (omega (arith, w.0, w.1)) in
      let found = link_of_line m.lines 2 (file - 2) at.0 (apart m.lines is.is_manifest.lines) at.1 in
      (at.0, at.1, found ∙ ap (λ n. Some (file_with n)) (omega (arith, w.0)))

  -- what is listed says what the tree has
  abbrev pub IsLink : LinkChange → Type 0
  IsLink x = x.target ≡ child_of tree x.dir x.name

  -- its place gives nothing now, unless a link was added there
  gone_is : (file : ℕ) (x : LinkChange) → gone file ≡ true → gone_change added (slice_get m.lines (file - 2)) ≡ Some x → IsLink x
  gone_is file x h place =
      let w = line_of_gone file h in
      let line = w.0 in
      elim (get added (line.dir.0, line.name)) as (λ o. get added (line.dir.0, line.name) ≡ o → (if is_some o then None else Some (record { dir = line.dir; name = line.name; target = None })) ≡ Some x → IsLink x) [
        | Some f ↦ λ e k. absurd (cc)
        | None ↦ λ e k.
            let child = child-over m made added gone lost next is line.dir line.name ∙ ap (λ o. option_or o (still gone (get base (line.dir.0, line.name)))) e ∙ ap (still gone) w.2 ∙ ap (λ (b : Bool). if b then None else Some (file_with file)) h in
            let is_x : ◌≡◌ {A = LinkChange} (record { dir = line.dir; name = line.name; target = None }) x = cc in
            subst IsLink is_x (sym child)
      ] refl (sym (ap (gone_change added) w.1) ∙ place)

  -- each that is listed is a link of the tree
  pub all_are : (files : List ℕ) → AllByRecursion (λ file. gone file ≡ true) files → AllByRecursion IsLink (map added_change (entries added) ++ gone_changes added m.lines files)
  all_are files are_gone =
      all-append IsLink (map added_change (entries added)) (gone_changes added m.lines files)
      (all-map IsLink added_change (entries added) (all_entries link_cmp_total (λ e. IsLink (added_change e)) (entries added) (entries_sorted added) (λ k v found. sym (child_added m made added gone lost next is (file_with k.0) k.1 v (get-entries added k ∙ found)))))
      (each files are_gone)
    where
      each : (fs : List ℕ) → AllByRecursion (λ file. gone file ≡ true) fs → AllByRecursion IsLink (gone_changes added m.lines fs)
      each [] h = tt
      each (f ∷ fs) h = listed_or_not IsLink (gone_change added (slice_get m.lines (f - 2))) (gone_changes added m.lines fs) (λ x place. gone_is f x h.0 place) (each fs h.1)

  -- each that differs is listed
  pub differing_there : (files : List ℕ) → ((q : ℕ) → gone q ≡ list_any (λ f. q == f) files) → (x : LinkChange) → IsLinkChange tree x → Contains (map added_change (entries added) ++ gone_changes added m.lines files) x
  differing_there files listed x h =
      let target = h.target ∙ child-over m made added gone lost next is x.dir x.name in
      elim (get added (x.dir.0, x.name)) as (λ o. get added (x.dir.0, x.name) ≡ o → x.target ≡ option_or o (still gone (get base (x.dir.0, x.name))) → Contains (map added_change (entries added) ++ gone_changes added m.lines files) x) [
        | Some f ↦ λ e t.
            let found = contains_found link_cmp link_cmp-same added_change (x.dir.0, x.name) f (entries added) (sym (get-entries added (x.dir.0, x.name)) ∙ e) in
            let is_x : added_change ((x.dir.0, x.name), f) ≡ x = λ i. record { dir = x.dir; name = x.name; target = sym t i } in
            Contains-append_left (map added_change (entries added)) (gone_changes added m.lines files) x (subst (Contains (map added_change (entries added))) is_x found)
        | None ↦ λ e t. Contains-append_right (map added_change (entries added)) (gone_changes added m.lines files) x (was_there e t)
      ] refl target
    where
      was_there : get added (x.dir.0, x.name) ≡ None → x.target ≡ still gone (get base (x.dir.0, x.name)) → Contains (gone_changes added m.lines files) x
      was_there e t =
          elim (get base (x.dir.0, x.name)) as (λ o. get base (x.dir.0, x.name) ≡ o → x.target ≡ still gone o → Contains (gone_changes added m.lines files) x) [
            | None ↦ λ b k. absurd (h.differs (k ∙ sym b))
            | Some g ↦ λ b k. elim (gone g.0) as (λ c. gone g.0 ≡ c → x.target ≡ (if c then None else Some g) → Contains (gone_changes added m.lines files) x) [
              | false ↦ λ _ j. absurd (h.differs (j ∙ sym b))
              | true ↦ λ c j.
                  let r = line_of_link m.lines 2 x.dir.0 x.name g b in
                  let id = r.file_is in
                  let place : g.0 - 2 ≡ r.place = omega (arith, id) in
                  let line = ap (slice_get m.lines) place ∙ r.here in
                  let there = ap (λ k. get added k) (λ i. (r.dir_is i, r.name_is i)) ∙ e in
                  let is_x : ◌≡◌ {A = LinkChange} (record { dir = r.line.dir; name = r.line.name; target = None }) x = λ i. record { dir = same_id r.line.dir x.dir r.dir_is i; name = r.name_is i; target = sym j i } in
                  let change : gone_change added (slice_get m.lines (g.0 - 2)) ≡ Some x = ap (gone_change added) line ∙ ap (λ (o : Option FileId). if is_some o then None else Some (record { dir = r.line.dir; name = r.line.name; target = None })) there ∙ ap (λ y. Some y) is_x in
                  listed_there added m.lines files g.0 x (sym (listed g.0) ∙ c) change
            ] refl k
          ] refl t
