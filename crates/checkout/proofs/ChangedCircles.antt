-- Where no changed link is above its own directory none is: a circle would go through a link that was changed.
use Rattle.std.proofs.Common.{◌≡◌, ◌⊎◌, ℕ, zero, suc, List, [], ◌∷◌, ◌++◌, Some, None, refl, sym, ap, ◌∙◌, inl, inr, arith}
use Rattle.std.specs.FinMap.{FinMap}
use Rattle.std.specs.List.{Contains, slice_get}
use Rattle.std.specs.Option.{option_and_then}
use Rattle.eden_base.specs.declared.number.FileId.{FileId}
use Rattle.checkout.specs.declared.changes.Changes.{Changes}
use Rattle.manifest.specs.declared.link_change.LinkChange.{LinkChange}
use Rattle.checkout.specs.BadChanges.{IsAboveItself, changed_links, first_bad, first_link, is_bad_link}
use Rattle.checkout.specs.Changed.{changed}
use Rattle.manifest.specs.Manifest.{IsManifest, Manifest}
use Rattle.manifest.specs.Tree.{Tree, child_of, file_at, link_cmp, links_from, tree_of}
use Rattle.checkout.proofs.ChangedLinks.{file_below-is}
use Rattle.checkout.proofs.ChangedMaps.{changed_has_links, stands_or_same}
use Rattle.checkout.proofs.CircleLaws.{not_above_itself}
use Rattle.manifest.proofs.ManifestIsTree.{tree_of-IsTree}
use Rattle.manifest.proofs.ManifestTree.{same_id}
use Rattle.manifest.proofs.PathLaws.{file_at-append}

-- the place of a member
place_in : (xs : List LinkChange) (x : LinkChange) → Contains xs x → (j : ℕ) × (slice_get xs j ≡ Some x)
place_in [] x (k, within, at) = absurd (omega arith)
place_in (y ∷ ys) x (zero, within, at) = (0, ap (λ z. Some z) at)
place_in (y ∷ ys) x (suc k, within, at) = let r = place_in ys x (k, omega arith, at) in (suc r.0, r.1)

-- a change on the way from one file to another
record IsOnTheWay (t : Tree) (c : Changes) (from to : FileId) : Type 0 where
  front : List (List ℕ)
  change : LinkChange
  listed : Contains c.links change
  file : FileId
  gives : change.target ≡ Some file
  back : List (List ℕ)
  to_change : file_at t from front ≡ Some change.dir
  from_change : file_at t file back ≡ Some to

module _ (m : Manifest) (c : Changes) where
  abbrev tree : Tree
  tree = changed m c

  abbrev base : FinMap link_cmp FileId
  base = links_from 2 m.lines

  -- a path is the manifest's, or goes by a change
  path_cases : (from : FileId) (names : List (List ℕ)) (to : FileId) → file_at tree from names ≡ Some to → (file_at (tree_of m) from names ≡ Some to) ⊎ IsOnTheWay tree c from to
  path_cases from [] to h = inl h
  path_cases from (name ∷ names) to h =
      elim (child_of tree from name) as (λ o. child_of tree from name ≡ o → option_and_then (λ (child : FileId). file_at tree child names) o ≡ Some to → (file_at (tree_of m) from (name ∷ names) ≡ Some to) ⊎ IsOnTheWay tree c from to) [
        | None ↦ λ e g. absurd (cc)
        | Some child ↦ λ e g. elim (stands_or_same base c.links (from.0, name)) [
          | inr r ↦
              let at = same_id from r.change.dir (sym (ap (λ (k : ℕ × List ℕ). k.0) r.here)) in
              inr (record { front = []; change = r.change; listed = r.listed; file = child; gives = r.gives ∙ e; back = names; to_change = ap (λ d. Some d) at; from_change = g })
          | inl same ↦ elim (path_cases child names to g) [
            | inl first ↦ inl (ap (option_and_then (λ (c : FileId). file_at (tree_of m) c names)) (sym same ∙ e) ∙ first)
            | inr r ↦ inr (record {
              front = name ∷ r.front;
              change = r.change;
              listed = r.listed;
              file = r.file;
              gives = r.gives;
              back = r.back;
              to_change = ap (option_and_then (λ (c : FileId). file_at tree c r.front)) e ∙ r.to_change;
              from_change = r.from_change;
            })
          ]
        ]
      ] refl h

  module _ (is : IsManifest m) (none : first_bad (is_bad_link m c.made) (first_link c) None c.links ≡ None)
      (none_above : (j : ℕ) (other : LinkChange) → slice_get c.links j ≡ Some other → IsAboveItself (changed_links m c) other → ⊥) where
    not_above_change : (x : LinkChange) → Contains c.links x → (file : FileId) (names : List (List ℕ)) → x.target ≡ Some file → file_at tree file names ≡ Some x.dir → ⊥
    not_above_change x h file names gives back =
        let at = place_in c.links x h in
        none_above at.0 x at.1 (file, names, gives, file_below-is tree c (changed_has_links m c none) file names ∙ back)

    pub not_in_a_circle : (dir : FileId) (name : List ℕ) (file : FileId) (names : List (List ℕ)) → child_of tree dir name ≡ Some file → file_at tree file names ≡ Some dir → ⊥
    not_in_a_circle dir name file names link back =
        elim (path_cases file names dir back) [
          | inr r ↦
              not_above_change r.change r.listed r.file (r.back ++ name ∷ r.front) r.gives
              (file_at-append tree r.file r.back (name ∷ r.front) ∙ ap (option_and_then (λ (f : FileId). file_at tree f (name ∷ r.front))) r.from_change
              ∙ ap (option_and_then (λ (f : FileId). file_at tree f r.front)) link ∙ r.to_change)
          | inl first_back ↦ elim (stands_or_same base c.links (dir.0, name)) [
            | inr r ↦
                let at = same_id dir r.change.dir (sym (ap (λ (k : ℕ × List ℕ). k.0) r.here)) in
                not_above_change r.change r.listed file names (r.gives ∙ link) (back ∙ ap (λ d. Some d) at)
            | inl same ↦ not_above_itself (tree_of m) (tree_of-IsTree m is) dir name file names (sym same ∙ link) first_back
          ]
        ]
