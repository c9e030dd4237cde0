-- The files that were made, in a tree that is laid over a manifest's, are the made files of the tree.
use Rattle.std.proofs.Common.{◌≡◌, ℕ, Bool, List, [], ◌∷◌, map, Some, None, refl, sym, ap, subst, ◌∙◌}
use Rattle.std.proofs.lemmas.List.Elements.{All-contains, All-from_recursion}
use Rattle.std.specs.Cmp.{nat_cmp_total}
use Rattle.std.specs.FinMap.{FinMap, entries, entries_sorted, get, get-entries, nat_cmp-IsAntisymmetric}
use Rattle.std.specs.List.{AllByRecursion, Contains}
use Rattle.std.specs.List.Sorted.{IsStrictlySortedBy}
use Rattle.std.specs.Option.{option_map, option_or}
use Rattle.std.specs.Ordering.{nat_cmp}
use Rattle.eden_base.proofs.MemberLemmas.{some-IsSome}
use Rattle.eden_base.specs.declared.number.FileId.{FileId}
use Rattle.checkout.specs.declared.changes.Made.{Made}
use Rattle.checkout.specs.declared.made.MadeFile.{MadeFile}
use Rattle.checkout.specs.Changes.{AreMade, IsMade, file_ids}
use Rattle.checkout.specs.Listing.{listed_file}
use Rattle.manifest.specs.Manifest.{File, Manifest}
use Rattle.checkout.specs.Overlay.{file_made, tree_over, AreParts}
use Rattle.manifest.specs.Tree.{Tree, link_cmp, files_from}
use Rattle.checkout.specs.ChangedTree.{made_file}
use Rattle.checkout.proofs.KindLemmas.{made_kinds_same}
use Rattle.checkout.proofs.ChangeLists.{all_entries, all-map, contains_found, keys_rise}
use Rattle.manifest.proofs.ManifestTree.{no_later_file}
use Rattle.checkout.proofs.UnionLaws.{get-files_over}

ids_of : (es : List (ℕ × MadeFile)) → file_ids (map listed_file es) ≡ map (λ (e : ℕ × MadeFile). e.0) es
ids_of [] = refl
ids_of (e ∷ es) = ap (λ ids. e.0 ∷ ids) (ids_of es)

module _ (m : Manifest) (made : FinMap nat_cmp MadeFile) (added : FinMap link_cmp FileId) (gone : ℕ → Bool) (lost : ℕ → ℕ) (next : ℕ) (is : AreParts m made added gone lost) where
  abbrev tree : Tree
  tree = tree_over m made added gone next

  file_there : (id : ℕ) (f : MadeFile) → get made id ≡ Some f → IsMade tree (listed_file (id, f))
  file_there id f here = record {
    later = is.made_are_later id (some-IsSome _ f here);
    file = get-files_over made (files_from 2 m.lines) id ∙ ap (λ o. option_or (option_map file_made o) (get (files_from 2 m.lines) id)) here;
  }

  made_there : (x : Made) → IsMade tree x → Contains (map listed_file (entries made)) x
  made_there x h =
      let both = sym (get-files_over made (files_from 2 m.lines) x.file.0) ∙ h.file in
      let only = ap (option_or (option_map file_made (get made x.file.0))) (sym (no_later_file m.lines x.file.0 h.later)) ∙ both in
      elim (get made x.file.0) as (λ o. get made x.file.0 ≡ o → option_or (option_map file_made o) None ≡ Some (made_file x.kind x.perm) → Contains (map listed_file (entries made)) x) [
        | None ↦ λ e k. absurd (cc)
        | Some f ↦ λ e k.
            let same : file_made f ≡ made_file x.kind x.perm = cc in
            let found = contains_found nat_cmp nat_cmp-IsAntisymmetric listed_file x.file.0 f (entries made) (sym (get-entries made x.file.0) ∙ e) in
            let kinds = made_kinds_same f.kind x.kind (ap (λ (g : File). g.kind) same) in
            let is_x : listed_file (x.file.0, f) ≡ x = λ i. record { file = x.file; kind = kinds i; perm = (same i).perm } in
            subst (Contains (map listed_file (entries made))) is_x found
      ] refl only

  pub AreMade-over : AreMade tree (map listed_file (entries made))
  AreMade-over = record {
    rising = subst (IsStrictlySortedBy nat_cmp) (sym (ids_of (entries made))) (keys_rise nat_cmp (entries made) (entries_sorted made));
    each = λ x. (
      λ h. All-contains (IsMade tree) (map listed_file (entries made)) x (All-from_recursion (IsMade tree) (map listed_file (entries made)) all) h,
      made_there x,
    );
  }
    where
      all : AllByRecursion (IsMade tree) (map listed_file (entries made))
      all = all-map (IsMade tree) listed_file (entries made) (all_entries nat_cmp_total (λ e. IsMade tree (listed_file e)) (entries made) (entries_sorted made) (λ k f found. file_there k f (get-entries made k ∙ found)))
