-- A link that is taken from a tree laid over a manifest's.
use Rattle.std.proofs.Common.{◌≡◌, ℕ, ◌+◌, ◌==◌, ◌||◌, Bool, true, false, cond, if◌then◌else◌, List, Some, None, refl, sym, ap, subst, ◌∙◌, arith, eq-eqb}
use Rattle.std.proofs.Math.Bool.{or-true}
use Rattle.std.proofs.lemmas.Bool.Decides.{nat_tests}
use Rattle.std.specs.Option.{option_or}
use Rattle.std.specs.Ordering.{nat_cmp, is_eq, eq_by_cmp}
use Rattle.std.specs.Cmp.{tied_itself}
use Rattle.std.specs.FinMap.{FinMap, get, remove, get-remove, same_map}
use Rattle.eden_base.proofs.MemberLemmas.{some-IsSome, some-is}
use Rattle.eden_base.specs.declared.number.FileId.{FileId}
use Rattle.checkout.specs.declared.made.MadeFile.{MadeFile}
use Rattle.manifest.specs.Manifest.{Manifest}
use Rattle.manifest.specs.Tree.{Tree, link_cmp, files_from, links_from, IsTree}
use Rattle.checkout.specs.ChangedTree.{is_full_dir, removed}
use Rattle.checkout.specs.Overlay.{still, files_over, links_over, tree_over, is_line, lost_in, IsOverlay}
use Rattle.manifest.proofs.FlatLemmas.{link_cmp_total, link_cmp-same}
use Rattle.checkout.proofs.LostCounts.{lost-one_more}
use Rattle.manifest.proofs.ManifestIsTree.{tree_of-IsTree}
use Rattle.manifest.proofs.ManifestTree.{same_id, line_of_link}
use Rattle.manifest.proofs.MapLemmas.{get-remove_cases, get-remove_other, get-remove_same, tied_key}
use Rattle.checkout.proofs.OverlayLaws.{child_added, child_left, line_of_base}
use Rattle.checkout.proofs.RemoveLaws.{removed-IsTree}
use Rattle.checkout.proofs.UnionLaws.{get-links_over}

-- one key has nothing now, and every other has what it had
remove-links_over : (added added' : FinMap link_cmp FileId) (gone gone' : ℕ → Bool) (base : FinMap link_cmp FileId) (k : ℕ × List ℕ) →
    (get added' k ≡ None) → (still gone' (get base k) ≡ None) →
    ((q : ℕ × List ℕ) → (q ≡ k → ⊥) → option_or (get added' q) (still gone' (get base q)) ≡ option_or (get added q) (still gone (get base q))) →
    links_over added' gone' base ≡ remove (links_over added gone base) k
remove-links_over added added' gone gone' base k none_added none_left others =
    same_map link_cmp_total link_cmp-same _ _ (λ q. get-links_over added' gone' base q ∙ at q ∙ sym (get-remove link_cmp_total (links_over added gone base) k q))
  where
    itself : (x : ℕ × List ℕ) → eq_by_cmp link_cmp x x ≡ true
    itself x = ap is_eq (tied_itself link_cmp_total x)

    at : (q : ℕ × List ℕ) → option_or (get added' q) (still gone' (get base q)) ≡ cond (eq_by_cmp link_cmp q k) None (get (links_over added gone base) q)
    at q =
        elim (eq_by_cmp link_cmp q k) as (λ b. eq_by_cmp link_cmp q k ≡ b → option_or (get added' q) (still gone' (get base q)) ≡ cond b None (get (links_over added gone base) q)) [
          | true ↦ λ e.
              let same = tied_key link_cmp-same q k e in
              ap (λ x. option_or (get added' x) (still gone' (get base x))) same ∙ ap (λ o. option_or o (still gone' (get base k))) none_added ∙ none_left
          | false ↦ λ e.
              others q (λ same. let yes = ap (λ x. eq_by_cmp link_cmp x k) same ∙ itself k in cc (yes, e)) ∙ sym (get-links_over added gone base q)
        ] refl

module _ (m : Manifest) (made : FinMap nat_cmp MadeFile) (added : FinMap link_cmp FileId) (gone : ℕ → Bool) (lost : ℕ → ℕ) (next : ℕ) (is : IsOverlay m made added gone lost next) (dir : FileId) (name : List ℕ) (file : FileId) where
  abbrev tree : Tree
  tree = tree_over m made added gone next

  abbrev base : FinMap link_cmp FileId
  base = links_from 2 m.lines

  -- a link that was added
  module _ (here : get added (dir.0, name) ≡ Some file) (not_full : is_full_dir tree file ≡ false) where
    abbrev added' : FinMap link_cmp FileId
    added' = remove added (dir.0, name)

    pub tree_over-removed_added : tree_over m made added' gone next ≡ removed tree dir name
    tree_over-removed_added =
        let links = remove-links_over added added' gone gone base (dir.0, name) (get-remove_same link_cmp_total added (dir.0, name)) (is.parts.added_are_apart dir.0 name (some-IsSome _ file here))
        (λ q other. ap (λ o. option_or o (still gone (get base q))) (get-remove_other link_cmp_total link_cmp-same added (dir.0, name) q other)) in
        λ i. record { manifest = m; files = files_over made (files_from 2 m.lines); links = links i; next_file = next }

    pub remove_added-IsOverlay : IsOverlay m made added' gone lost next
    remove_added-IsOverlay = record {
      parts = record {
        is_manifest = is.parts.is_manifest;
        made_are_later = is.parts.made_are_later;
        added_are_apart = λ d n h. let x = some-is _ h in is.parts.added_are_apart d n (some-IsSome _ x.0 (get-remove_cases link_cmp_total link_cmp-same added (dir.0, name) (d, n) x.0 x.1).0);
        gone_are_lines = is.parts.gone_are_lines;
        lost_are_counted = is.parts.lost_are_counted;
      };
      is_tree = subst IsTree (sym tree_over-removed_added) (removed-IsTree tree dir name file is.is_tree (child_added m made added gone lost next is.parts dir name file here) not_full);
    }

  -- a link of the manifest
  module _ (here : get base (dir.0, name) ≡ Some file) (not_added : get added (dir.0, name) ≡ None) (left : gone file.0 ≡ false) (not_full : is_full_dir tree file ≡ false)
      (gone' : ℕ → Bool) (lost' : ℕ → ℕ) (one_more : (q : ℕ) → gone' q ≡ ((q == file.0) || gone q)) (counted : (q : ℕ) → lost' q ≡ (if q == dir.0 then lost q + 1 else lost q)) where
    still-gone : still gone' (Some file) ≡ None
    still-gone = ap (λ b. if b then None else Some file) (one_more file.0 ∙ ap (λ b. b || gone file.0) (eq-eqb file.0 file.0 refl))

    -- another place gives another file
    other_file : (q : ℕ × List ℕ) (g : FileId) → get base q ≡ Some g → (q ≡ (dir.0, name) → ⊥) → (g.0 == file.0) ≡ false
    other_file q g h other =
        elim (g.0 == file.0) as (λ b. (g.0 == file.0) ≡ b → b ≡ false) [
          | false ↦ λ e. refl
          | true ↦ λ e.
              let id : g.0 ≡ file.0 = grind (arith, nat_tests) in
              let there = here ∙ ap (λ x. Some x) (same_id file g (sym id)) in
              let w = (tree_of-IsTree m is.parts.is_manifest).links_are_apart (record { 0 = q.0 }) dir q.1 name g h there in
              absurd (other (λ i. ((w.0 i).0, w.1 i)))
        ] refl

    stays_elsewhere : (q : ℕ × List ℕ) → (q ≡ (dir.0, name) → ⊥) → still gone' (get base q) ≡ still gone (get base q)
    stays_elsewhere q other =
        elim (get base q) as (λ o. get base q ≡ o → still gone' o ≡ still gone o) [
          | None ↦ λ e. refl
          | Some g ↦ λ e. ap (λ b. if b then None else Some g) (one_more g.0 ∙ ap (λ b. b || gone g.0) (other_file q g e other))
        ] refl

    pub tree_over-removed : tree_over m made added gone' next ≡ removed tree dir name
    tree_over-removed =
        let links = remove-links_over added added gone gone' base (dir.0, name) not_added (ap (still gone') here ∙ still-gone) (λ q other. ap (option_or (get added q)) (stays_elsewhere q other)) in
        λ i. record { manifest = m; files = files_over made (files_from 2 m.lines); links = links i; next_file = next }

    pub remove-IsOverlay : IsOverlay m made added gone' lost' next
    remove-IsOverlay = record {
      parts = record {
        is_manifest = is.parts.is_manifest;
        made_are_later = is.parts.made_are_later;
        added_are_apart = λ d n h. let o = is.parts.added_are_apart d n h in at_all d n o;
        gone_are_lines = λ q h. gone_line q (sym (one_more q.0) ∙ h);
        lost_are_counted = λ d. counted d ∙ count d;
      };
      is_tree = subst IsTree (sym tree_over-removed) (removed-IsTree tree dir name file is.is_tree (child_left m made added gone lost next is.parts dir name file here left) not_full);
    }
      where
        gone_line : (q : FileId) → ((q.0 == file.0) || gone q.0) ≡ true → is_line m q ≡ true
        gone_line q h =
            elim (q.0 == file.0) as (λ b. (q.0 == file.0) ≡ b → (b || gone q.0) ≡ true → is_line m q ≡ true) [
              | true ↦ λ e k. let id : q.0 ≡ file.0 = grind (arith, nat_tests) in ap (is_line m) (same_id q file id) ∙ line_of_base m made added gone lost next is.parts dir name file here
              | false ↦ λ e k. is.parts.gone_are_lines q k
            ] refl h

        at_all : (d : ℕ) (n : List ℕ) → still gone (get base (d, n)) ≡ None → still gone' (get base (d, n)) ≡ None
        at_all d n o =
            elim (get base (d, n)) as (λ x. get base (d, n) ≡ x → still gone x ≡ None → still gone' x ≡ None) [
              | None ↦ λ e h. refl
              | Some g ↦ λ e h.
                  let was : gone g.0 ≡ true = elim (gone g.0) as (λ b. (if b then None else Some g) ≡ None → b ≡ true) [ true ↦ λ _. refl | false ↦ λ k. absurd (cc) ] h in
                  ap (λ b. if b then None else Some g) (one_more g.0 ∙ ap (λ b. (g.0 == file.0) || b) was ∙ or-true (g.0 == file.0))
            ] refl o

        count : (d : ℕ) → (if d == dir.0 then lost d + 1 else lost d) ≡ lost_in gone' d 2 m.lines
        count d =
            let r = line_of_link m.lines 2 dir.0 name file here in
            let more = lost-one_more gone gone' file.0 one_more left d 2 r.place m.lines r.line r.here r.file_is in
            let at = ap (λ (x : ℕ). x == d) r.dir_is in
            let before = is.parts.lost_are_counted d in
            elim (d == dir.0) as (λ b. (d == dir.0) ≡ b → (if b then lost d + 1 else lost d) ≡ lost_in gone' d 2 m.lines) [
              | true ↦ λ e. let yes : (dir.0 == d) ≡ true = grind (arith, nat_tests) in let c = ap {B = ℕ} (λ b. cond b 1 0) (at ∙ yes) in omega (arith, more, c, before)
              | false ↦ λ e. let no : (dir.0 == d) ≡ false = grind (arith, nat_tests) in let c = ap {B = ℕ} (λ b. cond b 1 0) (at ∙ no) in omega (arith, more, c, before)
            ] refl
