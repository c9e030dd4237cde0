-- A file that is made in a tree laid over a manifest's.
use Rattle.std.proofs.Common.{◌≡◌, ℕ, ◌+◌, ◌<◌, ◌≤◌, Bool, true, false, cond, List, length, Some, None, refl, sym, ap, subst, ◌∙◌, inl, inr, arith}
use Rattle.std.specs.Option.{option_map, option_or}
use Rattle.std.specs.Ordering.{nat_cmp, eq_by_cmp}
use Rattle.std.specs.Cmp.{nat_cmp_total}
use Rattle.std.specs.FinMap.{FinMap, get, insert, get-insert, same_map, nat_cmp-IsAntisymmetric}
use Rattle.eden_base.proofs.MemberLemmas.{some-IsSome, some-is}
use Rattle.eden_base.specs.Limits.{end_of_files}
use Rattle.eden_base.specs.Name.{IsNameText}
use Rattle.eden_base.specs.declared.attr.MadeKind.{MadeKind}
use Rattle.eden_base.specs.declared.attr.Kind.TheVariants.{Dir}
use Rattle.eden_base.specs.declared.attr.Perm.{Perm}
use Rattle.eden_base.specs.declared.number.FileId.{FileId}
use Rattle.checkout.specs.declared.made.MadeFile.{MadeFile}
use Rattle.manifest.specs.Manifest.{File, Manifest}
use Rattle.manifest.specs.Tree.{Tree, link_cmp, kind_of, child_of, files_from, links_from, IsTree}
use Rattle.checkout.specs.ChangedTree.{is_unlinked, created}
use Rattle.checkout.specs.Overlay.{file_made, still, files_over, links_over, tree_over, IsOverlay}
use Rattle.checkout.proofs.CreateLaws.{created-IsTree, next_is_later}
use Rattle.manifest.proofs.FlatLemmas.{link_cmp_total, link_cmp-same}
use Rattle.manifest.proofs.ManifestTree.{file_with}
use Rattle.manifest.proofs.MapLemmas.{get-insert_cases}
use Rattle.checkout.proofs.OverlayLaws.{child-over, none_added}
use Rattle.checkout.proofs.UnionLaws.{get-files_over, get-links_over}

-- the file as it is kept
abbrev pub kept_file : MadeKind → Perm → MadeFile
kept_file kind perm = record { kind = kind; perm = perm }

files_over-insert : (made : FinMap nat_cmp MadeFile) (base : FinMap nat_cmp File) (k : ℕ) (v : MadeFile) → files_over (insert made k v) base ≡ insert (files_over made base) k (file_made v)
files_over-insert made base k v =
    same_map nat_cmp_total nat_cmp-IsAntisymmetric _ _ (λ q.
    get-files_over (insert made k v) base q ∙ ap (λ o. option_or (option_map file_made o) (get base q)) (get-insert nat_cmp_total made k v q) ∙ at q
    ∙ sym (get-insert nat_cmp_total (files_over made base) k (file_made v) q ∙ ap (cond (eq_by_cmp nat_cmp q k) (Some (file_made v))) (get-files_over made base q)))
  where
    at : (q : ℕ) → option_or (option_map file_made (cond (eq_by_cmp nat_cmp q k) (Some v) (get made q))) (get base q) ≡ cond (eq_by_cmp nat_cmp q k) (Some (file_made v)) (option_or (option_map file_made (get made q)) (get base q))
    at q =
        elim (eq_by_cmp nat_cmp q k) as (λ b. option_or (option_map file_made (cond b (Some v) (get made q))) (get base q) ≡ cond b (Some (file_made v)) (option_or (option_map file_made (get made q)) (get base q))) [ true ↦ refl | false ↦ refl ]

links_over-insert : (added : FinMap link_cmp FileId) (gone : ℕ → Bool) (base : FinMap link_cmp FileId) (k : ℕ × List ℕ) (v : FileId) → links_over (insert added k v) gone base ≡ insert (links_over added gone base) k v
links_over-insert added gone base k v =
    same_map link_cmp_total link_cmp-same _ _ (λ q.
    get-links_over (insert added k v) gone base q ∙ ap (λ o. option_or o (still gone (get base q))) (get-insert link_cmp_total added k v q) ∙ at q
    ∙ sym (get-insert link_cmp_total (links_over added gone base) k v q ∙ ap (cond (eq_by_cmp link_cmp q k) (Some v)) (get-links_over added gone base q)))
  where
    at : (q : ℕ × List ℕ) → option_or (cond (eq_by_cmp link_cmp q k) (Some v) (get added q)) (still gone (get base q)) ≡ cond (eq_by_cmp link_cmp q k) (Some v) (option_or (get added q) (still gone (get base q)))
    at q = elim (eq_by_cmp link_cmp q k) as (λ b. option_or (cond b (Some v) (get added q)) (still gone (get base q)) ≡ cond b (Some v) (option_or (get added q) (still gone (get base q)))) [ true ↦ refl | false ↦ refl ]

pub tree_over-created : (m : Manifest) (made : FinMap nat_cmp MadeFile) (added : FinMap link_cmp FileId) (gone : ℕ → Bool) (next : ℕ) (dir : FileId) (name : List ℕ) (kind : MadeKind) (perm : Perm) →
    tree_over m (insert made next (kept_file kind perm)) (insert added (dir.0, name) (file_with next)) gone (next + 1) ≡ created (tree_over m made added gone next) dir name kind perm
tree_over-created m made added gone next dir name kind perm =
    let files = files_over-insert made (files_from 2 m.lines) next (kept_file kind perm) in
    let links = links_over-insert added gone (links_from 2 m.lines) (dir.0, name) (file_with next) in
    λ i. record { manifest = m; files = files i; links = links i; next_file = next + 1 }

module _ (m : Manifest) (made : FinMap nat_cmp MadeFile) (added : FinMap link_cmp FileId) (gone : ℕ → Bool) (lost : ℕ → ℕ) (next : ℕ) (is : IsOverlay m made added gone lost next) where
  abbrev tree : Tree
  tree = tree_over m made added gone next

  module _ (dir : FileId) (name : List ℕ) (kind : MadeKind) (perm : Perm) (is_dir : kind_of tree dir ≡ Some Dir) (is_reached : is_unlinked tree dir ≡ false) (free : child_of tree dir name ≡ None) (is_name : IsNameText name) (fits : next < end_of_files) where
    abbrev made' : FinMap nat_cmp MadeFile
    made' = insert made next (kept_file kind perm)

    abbrev added' : FinMap link_cmp FileId
    added' = insert added (dir.0, name) (file_with next)

    later : length m.lines + 2 ≤ next
    later = next_is_later tree is.is_tree

    -- nothing was added at the place, nor is there a link of the manifest
    no_link_added : get added (dir.0, name) ≡ None
    no_link_added = none_added m made added gone lost next is.parts dir name free

    no_link_left : still gone (get (links_from 2 m.lines) (dir.0, name)) ≡ None
    no_link_left = sym (child-over m made added gone lost next is.parts dir name ∙ ap (λ o. option_or o (still gone (get (links_from 2 m.lines) (dir.0, name)))) no_link_added) ∙ free

    pub create-IsOverlay : IsOverlay m made' added' gone lost (next + 1)
    create-IsOverlay = record {
      parts = record {
        is_manifest = is.parts.is_manifest;
        made_are_later = λ file h.
            let f = some-is _ h in
            elim (get-insert_cases nat_cmp_total nat_cmp-IsAntisymmetric made next (kept_file kind perm) file f.0 f.1) [
              | inl w ↦ omega (arith, w.0, later)
              | inr old ↦ is.parts.made_are_later file (some-IsSome _ f.0 old)
            ];
        added_are_apart = λ d n h.
            let f = some-is _ h in
            elim (get-insert_cases link_cmp_total link_cmp-same added (dir.0, name) (file_with next) (d, n) f.0 f.1) [
              | inl w ↦ ap (λ k. still gone (get (links_from 2 m.lines) k)) w.0 ∙ no_link_left
              | inr old ↦ is.parts.added_are_apart d n (some-IsSome _ f.0 old)
            ];
        gone_are_lines = is.parts.gone_are_lines;
        lost_are_counted = is.parts.lost_are_counted;
      };
      is_tree = subst IsTree (sym (tree_over-created m made added gone next dir name kind perm)) (created-IsTree tree dir name kind perm is.is_tree is_dir is_reached free is_name fits);
    }
