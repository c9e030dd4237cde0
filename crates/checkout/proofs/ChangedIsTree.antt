-- Changes without a bad one make a tree, and are its changes.
use Rattle.std.proofs.Common.{◌≡◌, ◌+◌, ◌≤◌, ◌⊎◌, ℕ, List, length, Option, Some, None, IsSome, is_some, refl, sym, ap, subst, ◌∙◌, inl, inr, arith}
use Rattle.std.proofs.lemmas.Bool.Decides.{nat_tests}
use Rattle.std.proofs.lemmas.List.Elements.{All-contains, All-from_recursion}
use Rattle.std.specs.List.{AllByRecursion, slice_get}
use Rattle.eden_base.specs.Name.{IsNameText}
use Rattle.eden_base.specs.declared.attr.Kind.TheVariants.{Dir}
use Rattle.eden_base.specs.declared.number.FileId.{FileId}
use Rattle.checkout.specs.declared.changes.Changes.{Changes}
use Rattle.manifest.specs.declared.link_change.LinkChange.{LinkChange}
use Rattle.checkout.specs.BadChanges.{Else, IsAboveItself, IsBadAround, IsBadChange, bad_by_cut, bad_by_other, bad_itself, changed_links}
use Rattle.checkout.specs.Changed.{changed}
use Rattle.checkout.specs.Changes.{AreChanges}
use Rattle.manifest.specs.Manifest.{File, IsManifest, Manifest}
use Rattle.manifest.specs.Tree.{IsMadeFile, IsTree, Tree, child_of, file_at, file_of, kind_of, links_from, root, tree_of}
use Rattle.checkout.proofs.ChangedAround.{changed_apart, dir_stays, file_cases, first_stays, id_within, kind_there}
use Rattle.checkout.proofs.ChangedCircles.{not_in_a_circle}
use Rattle.checkout.proofs.ChangedFiles.{changed_has_made, made_is_good}
use Rattle.checkout.proofs.ChangedMaps.{changed_has_links, stands_or_same}
use Rattle.checkout.proofs.ChangedUpward.{one_above}
use Rattle.checkout.proofs.FirstBadLaws.{IsGoodItself, good_itself}
use Rattle.manifest.proofs.ManifestIsTree.{tree_of-IsTree}
use Rattle.manifest.proofs.ManifestTree.{same_id}
use Rattle.checkout.proofs.UpwardLaws.{reached_from_root}

-- no round finds a bad change
pub record AreGood (m : Manifest) (c : Changes) : Type 0 where
  pub itself : bad_itself m c ≡ None
  pub by_other : bad_by_other m c ≡ None
  pub by_cut : bad_by_cut m c ≡ None
  pub none_above : (j : ℕ) (other : LinkChange) → slice_get c.links j ≡ Some other → IsAboveItself (changed_links m c) other → ⊥

neither_round : (earlier : Option ℕ) (Later : Option ℕ → Type 0) → Else earlier Later None → (earlier ≡ None) × Later None
neither_round (Some place) Later h = absurd (cc)
neither_round None Later h = (refl, h)

none_around : (m : Manifest) (c : Changes) → IsBadAround m c None → (bad_by_cut m c ≡ None) × ((j : ℕ) (other : LinkChange) → slice_get c.links j ≡ Some other → IsAboveItself (changed_links m c) other → ⊥)
none_around m c (inl w) = let some = w.2 in absurd (cc)
none_around m c (inr w) = (sym w.0, w.1)

pub are_good : (m : Manifest) (c : Changes) → IsBadChange m c None → AreGood m c
are_good m c h =
    let itself = neither_round (bad_itself m c) (Else (bad_by_other m c) (IsBadAround m c)) h in
    let by_other = neither_round (bad_by_other m c) (IsBadAround m c) itself.1 in
    let around = none_around m c by_other.1 in
    record { itself = itself.0; by_other = by_other.0; by_cut = around.0; none_above = around.1 }

module _ (m : Manifest) (c : Changes) (is : IsManifest m) (none : IsBadChange m c None) where
  abbrev tree : Tree
  tree = changed m c

  first : IsTree (tree_of m)
  first = tree_of-IsTree m is

  good : AreGood m c
  good = are_good m c none

  alone : IsGoodItself m c
  alone = good_itself m c good.itself

  later_or_first : (file : FileId) (f : File) → file_of tree file ≡ Some f → (file_of (tree_of m) file ≡ Some f) ⊎ ((length m.lines + 2 ≤ file.0) × IsMadeFile f)
  later_or_first file f h =
      elim (file_cases m c is good.itself file f h) [
        | inl e ↦ inl e
        | inr r ↦
            let later = (made_is_good m c alone.made r.made r.listed).later in
            let id = r.id in
            inr (omega (arith, later, id), (r.made.kind, sym (ap (λ (g : File). g.kind) r.is), sym (ap (λ (g : File). g.size) r.is)))
      ]

  have_names : AllByRecursion (λ link. IsNameText link.name) c.links → (dir : FileId) (name : List ℕ) (file : FileId) → child_of tree dir name ≡ Some file → IsNameText name
  have_names names dir name file h =
      let P : LinkChange → Type 0 = λ x. IsNameText x.name in
      elim (stands_or_same (links_from 2 m.lines) c.links (dir.0, name)) [
        | inl same ↦ first.links_have_names dir name file (sym same ∙ h)
        | inr r ↦ subst IsNameText (ap (λ (k : ℕ × List ℕ). k.1) r.here) (All-contains P c.links r.change (All-from_recursion P c.links names) r.listed)
      ]

  reached : (dir : FileId) (name : List ℕ) (file : FileId) → child_of tree dir name ≡ Some file → (path : List (List ℕ)) × (file_at tree root path ≡ Some file)
  reached =
      let whole = changed_apart m c is good.itself good.by_other in
      reached_from_root tree (λ dir name file h. (id_within m c is good.itself dir (dir_there dir (whole.stand_in_dirs dir name file h))).1)
      (one_above m c is alone.links good.by_cut)
      (not_in_a_circle m c is alone.links good.none_above)
    where
      dir_there : (dir : FileId) → kind_of tree dir ≡ Some Dir → IsSome (file_of tree dir)
      dir_there dir h = kind_there (file_of tree dir) (ap is_some h)

  made_tree : AllByRecursion (λ link. IsNameText link.name) c.links → IsTree (changed m c)
  made_tree names =
      let whole = changed_apart m c is good.itself good.by_other in
      record {
        root_is_dir = dir_stays (tree_of m) tree root (first_stays m c is good.itself root) first.root_is_dir;
        ids_below_next = λ file h. (id_within m c is good.itself file h).1;
        next_fits = let fits = alone.next_fits in grind (arith, nat_tests);
        has_manifest_files = first_stays m c is good.itself;
        others_are_later = later_or_first;
        links_have_names = have_names names;
        links_give_files = whole.give_files;
        links_stand_in_dirs = whole.stand_in_dirs;
        root_has_no_link = whole.no_root;
        links_are_apart = λ dir other name other_name file h g.
            let same = whole.apart (dir.0, name) (other.0, other_name) file h g in
            (same_id dir other (ap (λ (k : ℕ × List ℕ). k.0) same), ap (λ (k : ℕ × List ℕ). k.1) same);
        links_are_reached = reached;
      }

  pub changed_has_changes : AreChanges (changed m c) c
  changed_has_changes = record {
    made = changed_has_made m c alone.made;
    links = changed_has_links m c alone.links;
    next = refl;
  }

pub changed_is_tree : (m : Manifest) (c : Changes) → IsManifest m → AllByRecursion (λ link. IsNameText link.name) c.links → IsBadChange m c None → IsTree (changed m c)
changed_is_tree m c is names none = made_tree m c is none names
