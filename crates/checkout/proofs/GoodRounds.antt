-- What tells a tree from its manifest's has nothing bad in it: the first two rounds, and so all four.
use Rattle.std.proofs.Common.{◌≡◌, ◌==◌, ◌&&◌, ◌||◌, ℕ, zero, suc, Bool, true, false, not, if◌then◌else◌, List, [], ◌∷◌, Option, Some, None, is_some, refl, sym, ap, ◌∙◌, inr, arith}
use Rattle.std.proofs.lemmas.Bool.{and_parts}
use Rattle.std.proofs.lemmas.Bool.Decides.{nat_tests}
use Rattle.std.specs.Cmp.{tied_itself}
use Rattle.std.specs.List.{Contains, list_any, slice_get}
use Rattle.std.specs.Option.{option_map, option_or}
use Rattle.std.specs.Ordering.{is_eq}
use Rattle.eden_base.proofs.MemberLemmas.{some-is}
use Rattle.eden_base.specs.declared.attr.Kind.TheVariants.{Dir}
use Rattle.eden_base.specs.declared.number.FileId.{FileId}
use Rattle.checkout.specs.declared.changes.Changes.{Changes}
use Rattle.manifest.specs.declared.link_change.LinkChange.{LinkChange}
use Rattle.checkout.specs.BadChanges.{Else, IsBadAround, IsBadChange, Link, bad_by_cut, bad_by_other, bad_itself, changed_links, file_does, first_bad, first_link, gives_same, has_other_link, is_at, is_bad_link, is_bad_made, is_cut_off, is_target, kind_with, manifest_target}
use Rattle.checkout.specs.Changes.{AreChanges, IsLinkChange, place_of}
use Rattle.manifest.specs.Manifest.{File, IsManifest, Manifest}
use Rattle.manifest.specs.Tree.{IsTree, Tree, child_of, file_of, is_dir, kind_of, tree_of}
use Rattle.checkout.proofs.ChangeLists.{all_of}
use Rattle.checkout.proofs.ChangedAround.{dir_stays}
use Rattle.checkout.proofs.ChangedLinks.{lines_links-get}
use Rattle.checkout.proofs.ChangedUpward.{Stands, each_link, passing_one}
use Rattle.checkout.proofs.FirstBadLaws.{IsGoodLink, same_if_so}
use Rattle.manifest.proofs.FlatLemmas.{link_cmp_total}
use Rattle.checkout.proofs.GoodChanges.{none_cut_off, none_is_above}
use Rattle.manifest.proofs.ManifestIsTree.{tree_of-IsTree}
use Rattle.manifest.proofs.ManifestTree.{file_with, same_id}
use Rattle.checkout.proofs.NoneBadLaws.{links_not_bad, none_found}
use Rattle.checkout.proofs.OwnFiles.{next_not_bad, own_kind, own_made_not_bad}

-- what stands at a place is a member
member_at : {X : Type 0} (xs : List X) (j : ℕ) (x : X) → slice_get xs j ≡ Some x → Contains xs x
member_at [] j x h = absurd (cc)
member_at (y ∷ ys) zero x h = (0, omega arith, let same : y ≡ x = cc in same)
member_at (y ∷ ys) (suc j) x h = let r = member_at ys j x h in (suc r.0, omega (arith, r.1), r.2)

module _ (t : Tree) (c : Changes) (is : IsTree t) (man : IsManifest t.manifest) (has : AreChanges t c) where
  abbrev m : Manifest
  m = t.manifest

  first : IsTree (tree_of m)
  first = tree_of-IsTree m man

  -- a link is changed in a directory: one is there, or was
  changed_in_dir : (x : LinkChange) → IsLinkChange t x → kind_of t x.dir ≡ Some Dir
  changed_in_dir x told =
      elim x.target as (λ o. x.target ≡ o → kind_of t x.dir ≡ Some Dir) [
        | Some f ↦ λ e. is.links_stand_in_dirs x.dir x.name f (sym told.target ∙ e)
        | None ↦ λ e. elim (child_of (tree_of m) x.dir x.name) as (λ o. child_of (tree_of m) x.dir x.name ≡ o → kind_of t x.dir ≡ Some Dir) [
          | Some g ↦ λ k. dir_stays (tree_of m) t x.dir (is.has_manifest_files x.dir) (first.links_stand_in_dirs x.dir x.name g k)
          | None ↦ λ k. absurd (told.differs (e ∙ sym k))
        ] refl
      ] refl

  target_there : (x : LinkChange) → IsLinkChange t x → (o : Option FileId) → x.target ≡ o → is_target m c.made o ≡ true
  target_there x told None e = refl
  target_there x told (Some f) e =
      let link = sym told.target ∙ e in
      let file = some-is (file_of t f) (is.links_give_files x.dir x.name f link) in
      let kind : is_some (kind_with m c.made f) ≡ true = ap is_some (own_kind t c is has f ∙ ap (option_map (λ (g : File). g.kind)) file.1) in
      let above = is.root_has_no_link x.dir x.name f link in
      let other : (f.0 == 1) ≡ false = grind (arith, nat_tests) in
      ap (λ b. b && not (f.0 == 1)) kind ∙ ap not other

  good_change : (x : LinkChange) → Contains c.links x → IsGoodLink m c.made x
  good_change x h =
      let told = (has.links.each x).0 h in
      record {
        dir = ap is_dir (own_kind t c is has x.dir ∙ changed_in_dir x told);
        target = target_there x told x.target refl;
        differs = elim (gives_same x.target (manifest_target m x)) as (λ b. gives_same x.target (manifest_target m x) ≡ b → b ≡ false) [
          | true ↦ λ e. absurd (told.differs (same_if_so x.target (manifest_target m x) e ∙ lines_links-get 2 m.lines (place_of x)))
          | false ↦ λ _. refl
        ] refl;
      }

  -- the first round finds nothing
  none_itself : bad_itself m c ≡ None
  none_itself = ap (λ b. if b then Some 0 else option_or made links) (next_not_bad t c is has) ∙ ap (λ o. option_or o links) (own_made_not_bad t c is has) ∙ links_not_bad m c.made (first_link c) c.links has.links.rising (all_of (IsGoodLink m c.made) c.links good_change)
    where
      made : Option ℕ
      made = first_bad (is_bad_made m c.next_file) 1 None c.made

      links : Option ℕ
      links = first_bad (is_bad_link m c.made) (first_link c) None c.links

  -- no other link gives the file of one
  has_no_other : (x : LinkChange) → IsLinkChange t x → (o : Option FileId) → x.target ≡ o → file_does (λ file. list_any (λ (link : Link). link.1.0 == file.0 && not (is_at (place_of x) link.0)) (changed_links m c)) o ≡ false
  has_no_other x told None e = refl
  has_no_other x told (Some f) e =
      elim (list_any other (changed_links m c)) as (λ b. list_any other (changed_links m c) ≡ b → b ≡ false) [
        | false ↦ λ _. refl
        | true ↦ λ g.
            let w = passing_one (Stands t) other (changed_links m c) (each_link t c man has.links) g in
            let both = and_parts (w.0.1.0 == f.0) (not (is_at (place_of x) w.0.0)) w.2 in
            let passes = both.0 in
            let file = same_id w.0.1 f (grind (arith, nat_tests)) in
            let one = is.links_are_apart x.dir (file_with w.0.0.0) x.name w.0.0.1 f (sym told.target ∙ e) (w.1 ∙ ap (λ y. Some y) file) in
            let at : is_at (place_of x) w.0.0 ≡ true = ap (is_at (place_of x)) (λ i. ((sym one.0 i).0, sym one.1 i)) ∙ ap is_eq (tied_itself link_cmp_total (place_of x)) in
            let none : not (is_at (place_of x) w.0.0) ≡ false = ap not at in
            absurd (let away = both.1 in cc (none, away))
      ] refl
    where
      other : Link → Bool
      other link = link.1.0 == f.0 && not (is_at (place_of x) link.0)

  none_by_other : bad_by_other m c ≡ None
  none_by_other =
      none_found (has_other_link (changed_links m c)) (first_link c) None c.links
      (all_of (λ x. has_other_link (changed_links m c) x ≡ false) c.links (λ x h. has_no_other x ((has.links.each x).0 h) x.target refl))

  none_by_cut : bad_by_cut m c ≡ None
  none_by_cut =
      none_found (λ change. cut change.dir || file_does cut (manifest_target m change)) (first_link c) None c.links
      (all_of (λ x. (cut x.dir || file_does cut (manifest_target m x)) ≡ false) c.links (λ x h. ap (λ b. b || file_does cut (manifest_target m x)) (none_cut_off t c is has x.dir) ∙ not_there (manifest_target m x)))
    where
      cut : FileId → Bool
      cut = is_cut_off (changed_links m c)

      not_there : (o : Option FileId) → file_does cut o ≡ false
      not_there None = refl
      not_there (Some f) = none_cut_off t c is has f

  pub changes_are_good : IsBadChange t.manifest c None
  changes_are_good =
      later_alone (bad_itself m c) (Else (bad_by_other m c) (IsBadAround m c)) none_itself
      (later_alone (bad_by_other m c) (IsBadAround m c) none_by_other
      (inr (sym none_by_cut, λ j other here above. none_is_above t c is has other ((has.links.each other).0 (member_at c.links j other here)) above)))
    where
      later_alone : (earlier : Option ℕ) (Later : Option ℕ → Type 0) → earlier ≡ None → Later None → Else earlier Later None
      later_alone (Some place) Later e h = absurd (cc)
      later_alone None Later e h = h
