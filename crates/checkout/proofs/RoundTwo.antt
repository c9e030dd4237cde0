-- The second round, by marks and by what is gone.
use Rattle.std.proofs.Common.{◌≡◌, ℕ, ◌==◌, ◌+◌, ◌-◌, ◌&&◌, ◌||◌, Bool, true, false, not, List, Option, Some, None, refl, sym, ap, ◌∙◌, inl, inr, arith, eq-eqb}
use Rattle.std.proofs.Math.Bool.{or-true}
use Rattle.std.proofs.lemmas.Bool.{and_parts, not-true, or_cases}
use Rattle.std.proofs.lemmas.Bool.Decides.{nat_tests}
use Rattle.std.specs.Cmp.{tied_itself}
use Rattle.std.specs.FinMap.{FinMap, get}
use Rattle.std.specs.List.{list_any}
use Rattle.std.specs.Option.{option_map}
use Rattle.std.specs.Ordering.{is_eq}
use Rattle.eden_base.specs.declared.number.FileId.{FileId}
use Rattle.checkout.specs.declared.changes.Changes.{Changes}
use Rattle.manifest.specs.declared.link_change.LinkChange.{LinkChange}
use Rattle.checkout.specs.BadChanges.{Link, bad_by_other, bad_itself, changed_links, file_does, first_link, gives_same, has_other_link, is_at}
use Rattle.checkout.specs.Changes.{place_of}
use Rattle.checkout.specs.Laying.{taken}
use Rattle.manifest.specs.Manifest.{Manifest, IsManifest}
use Rattle.checkout.specs.Overlay.{is_line}
use Rattle.checkout.specs.Rounds.{first_of, is_given_twice, is_marked, marked}
use Rattle.manifest.specs.Tree.{link_cmp, links_from}
use Rattle.checkout.proofs.AmongLinks.{IsAmong, all_among, first_of-same, first_where-is, holds_among, links_any, links_found, same_bool, stands}
use Rattle.checkout.proofs.ChangeLists.{all_weaker}
use Rattle.checkout.proofs.ChangedLinks.{lines_links-get}
use Rattle.checkout.proofs.ChangedMaps.{links_with-put, target_else}
use Rattle.checkout.proofs.FirstBadLaws.{IsGoodLink, gives_same_itself, good_itself, links_good}
use Rattle.manifest.proofs.FlatLemmas.{link_cmp_total, link_cmp-same}
use Rattle.checkout.proofs.LaidLinks.{change_at, found_at, goes, stays_there}
use Rattle.checkout.proofs.LaidTree.{stand_apart}
use Rattle.manifest.proofs.ManifestTree.{file_with, line_at, link_of_line, same_id}
use Rattle.manifest.proofs.MapLemmas.{tied_key}
use Rattle.checkout.proofs.MarkLaws.{gave_twice, marked-is, marked_twice}
use Rattle.manifest.proofs.MoreLines.{apart}
use Rattle.checkout.proofs.OverlayLaws.{within_lines}
use Rattle.checkout.proofs.TakenLaws.{line_of_place}

module _ (m : Manifest) (c : Changes) (is : IsManifest m) (itself : bad_itself m c ≡ None) (gone : ℕ → Bool) (went : (q : ℕ) → gone q ≡ list_any (λ f. q == f) (taken m c.links)) where
  abbrev base : FinMap link_cmp FileId
  base = links_from 2 m.lines

  -- the manifest has something else at the place of a change
  not_there : (x : LinkChange) (file : FileId) → IsAmong x c.links → x.target ≡ Some file → get base (place_of x) ≡ Some file → ⊥
  not_there x file h e there =
      let same = e ∙ sym there ∙ sym (lines_links-get 2 m.lines (place_of x)) in
      let alike = ap (gives_same x.target) (sym same) ∙ gives_same_itself x.target in
      let differs = (holds_among (IsGoodLink m c.made) c.links x (links_good m c.made (first_link c) c.links (good_itself m c itself).links) h).differs in
      cc (alike, differs)

  module _ (x : LinkChange) (h : IsAmong x c.links) (file : FileId) (e : x.target ≡ Some file) where
    abbrev test : Link → Bool
    test link = link.1.0 == file.0 && not (is_at (place_of x) link.0)

    passes_there : (place : ℕ × List ℕ) (f : FileId) → f.0 ≡ file.0 → is_at (place_of x) place ≡ false → test (place, f) ≡ true
    passes_there place f id other = ap (λ b. b && not (is_at (place_of x) place)) (eq-eqb f.0 file.0 id) ∙ ap not other

    -- a link of the manifest that is left is another
    other_if_left : is_line m file ≡ true → gone file.0 ≡ false → list_any test (changed_links m c) ≡ true
    other_if_left line left =
        let w = within_lines m file line in
        let low = w.0 in
        let at = line_at m.lines (file.0 - 2) (omega (arith, low, w.1)) in
        let place : ℕ × List ℕ = (at.0.dir.0, at.0.name) in
        let same : (file_with (2 + (file.0 - 2))).0 ≡ file.0 = omega (arith, low) in
        let here : get base place ≡ Some file = link_of_line m.lines 2 (file.0 - 2) at.0 (apart m.lines is.lines) at.1 ∙ ap (λ f. Some f) (same_id (file_with (2 + (file.0 - 2))) file same) in
        let none : change_at place c.links ≡ None = elim (change_at place c.links) as (λ o. change_at place c.links ≡ o → o ≡ None) [
          | None ↦ λ _. refl
          | Some y ↦ λ k. let yes = went file.0 ∙ goes m is place file here c.links y k in absurd (cc (yes, left))
        ] refl in
        let other : is_at (place_of x) place ≡ false = elim (is_at (place_of x) place) as (λ b. is_at (place_of x) place ≡ b → b ≡ false) [
          | false ↦ λ _. refl
          | true ↦ λ k. absurd (not_there x file h e (ap (get base) (tied_key link_cmp-same (place_of x) place k) ∙ here))
        ] refl in
        links_any m c is itself test place file (links_with-put base c.links place ∙ ap (target_else (get base place)) none ∙ here) (passes_there place file refl other)

    other_if_marked : marked file.0 None c.links ≡ Some true → list_any test (changed_links m c) ≡ true
    other_if_marked k =
        let w = gave_twice file.0 c.links (place_of x) (stand_apart m c is itself) k in
        links_any m c is itself test (place_of w.0) w.2.0 (sym (stands m c is itself w.0 w.1) ∙ w.2.1) (passes_there (place_of w.0) w.2.0 w.2.2 w.3)

    abbrev found : Bool
    found = (is_line m file && not (gone file.0)) || is_marked (marked file.0 None c.links)

    found_if_other : list_any test (changed_links m c) ≡ true → found ≡ true
    found_if_other k =
        let r = links_found m c is itself test k in
        let w = and_parts (r.file.0 == file.0) (not (is_at (place_of x) r.place)) r.passes in
        let first = w.0 in
        let id : r.file.0 ≡ file.0 = grind (arith, nat_tests) in
        let is_file = same_id r.file file id in
        elim (change_at r.place c.links) as (λ o. change_at r.place c.links ≡ o → target_else (get base r.place) o ≡ Some r.file → found ≡ true) [
          | None ↦ λ none here.
              let there = here ∙ ap (λ f. Some f) is_file in
              let line = line_of_place m r.place file there in
              let left = went file.0 ∙ stays_there m is r.place file there c.links none in
              ap (λ b. (b && not (gone file.0)) || is_marked (marked file.0 None c.links)) line ∙ ap (λ b. not b || is_marked (marked file.0 None c.links)) left
          | Some y ↦ λ at here.
              let y_is = found_at (λ z. IsAmong z c.links) r.place c.links y (all_among c.links) at in
              let twice = marked_twice file.0 c.links x y h y_is.0 (file, e, refl) (r.file, here, id) (λ same.
              let yes = ap (is_at (place_of x)) (y_is.1 ∙ ap place_of (sym same)) ∙ ap is_eq (tied_itself link_cmp_total (place_of x)) in
              let no = w.1 in
              cc (yes, no)) in
              ap (λ o. (is_line m file && not (gone file.0)) || is_marked o) twice ∙ or-true (is_line m file && not (gone file.0))
        ] refl (sym (links_with-put base c.links r.place) ∙ r.here)

    other_if_found : found ≡ true → list_any test (changed_links m c) ≡ true
    other_if_found k =
        elim (or_cases (is_line m file && not (gone file.0)) (is_marked (marked file.0 None c.links)) k) [
          | inl l ↦ let w = and_parts (is_line m file) (not (gone file.0)) l in other_if_left w.0 (not-true (gone file.0) w.1)
          | inr k ↦ other_if_marked (marked-is (marked file.0 None c.links) k)
        ]

    one_test : found ≡ list_any test (changed_links m c)
    one_test = same_bool found (list_any test (changed_links m c)) other_if_found found_if_other

  twice-is : (x : LinkChange) → IsAmong x c.links → is_given_twice m gone (λ file. marked file None c.links) x ≡ has_other_link (changed_links m c) x
  twice-is x h =
      elim x.target as (λ o. x.target ≡ o → file_does (λ file. (is_line m file && not (gone file.0)) || is_marked (marked file.0 None c.links)) o
      ≡ file_does (λ file. list_any (λ (link : Link). link.1.0 == file.0 && not (is_at (place_of x) link.0)) (changed_links m c)) o) [
        | None ↦ λ _. refl
        | Some file ↦ λ e. one_test x h file e
      ] refl

  pub twice-found : (index : Option ℕ) → index ≡ first_of (is_given_twice m gone (λ file. marked file None c.links)) 0 c.links → option_map (λ i. first_link c + i) index ≡ bad_by_other m c
  twice-found index e =
      let twice = is_given_twice m gone (λ file. marked file None c.links) in
      let test = has_other_link (changed_links m c) in
      ap (option_map (λ i. first_link c + i)) (e ∙ first_of-same twice test 0 c.links (all_weaker (λ x. IsAmong x c.links) (λ x. twice x ≡ test x) twice-is c.links (all_among c.links))) ∙ sym (first_where-is test c)
