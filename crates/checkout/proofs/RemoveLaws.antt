-- A tree from which a link was taken.
use Rattle.std.proofs.Common.{not, ◌≡◌, ℕ, ◌&&◌, true, false, List, Some, None, refl, sym, ap, ◌∙◌}
use Rattle.std.proofs.lemmas.Bool.{and_parts, and_right, not-true}
use Rattle.eden_base.specs.declared.attr.Kind.TheVariants.{File as RegularFile, Link as SymbolicLink}
use Rattle.eden_base.specs.declared.number.FileId.{FileId}
use Rattle.manifest.specs.Tree.{kind_of, Tree, root, child_of, is_dir, IsTree}
use Rattle.checkout.specs.ChangedTree.{has_links, is_empty_dir, is_full_dir, is_linked, removed}
use Rattle.manifest.proofs.FlatLemmas.{link_cmp_total, link_cmp-same, has_link}
use Rattle.checkout.proofs.CreateLaws.{IsElsewhere}
use Rattle.checkout.proofs.LinkLaws.{linked_from_child, child_from_linked}
use Rattle.manifest.proofs.ManifestTree.{same_id}
use Rattle.manifest.proofs.MapLemmas.{get-remove_cases, get-remove_other}
use Rattle.manifest.proofs.PathLaws.{file_at-beside}

module _ (tree : Tree) (dir : FileId) (name : List ℕ) where
  abbrev less : Tree
  less = removed tree dir name

  pub child_of-removed_elsewhere : (d : FileId) (n : List ℕ) → IsElsewhere d n dir name → child_of less d n ≡ child_of tree d n
  child_of-removed_elsewhere d n other =
      get-remove_other link_cmp_total link_cmp-same tree.links (dir.0, name) (d.0, n)
      (λ e. other (same_id d dir (ap (λ (k : ℕ × List ℕ). k.0) e), ap (λ (k : ℕ × List ℕ). k.1) e))

  pub child_of-removed_cases : (d : FileId) (n : List ℕ) (file : FileId) → child_of less d n ≡ Some file → (child_of tree d n ≡ Some file) × IsElsewhere d n dir name
  child_of-removed_cases d n file h =
      let w = get-remove_cases link_cmp_total link_cmp-same tree.links (dir.0, name) (d.0, n) file h in
      (w.0, λ same. w.1 (λ i. ((same.0 i).0, same.1 i)))

-- a file that is no directory with links has none
pub no_links_below : (tree : Tree) (file : FileId) → IsTree tree → is_full_dir tree file ≡ false → (name : List ℕ) → child_of tree file name ≡ None
no_links_below tree file is not_full name =
    elim (child_of tree file name) as (λ o. child_of tree file name ≡ o → o ≡ None) [
      | None ↦ λ e. refl
      | Some child ↦ λ e.
          let kind = ap is_dir (is.links_stand_in_dirs file name child e) in
          let links = has_link tree.links file.0 name child e in
          let full = ap (λ b. b && has_links tree file) kind ∙ links in
          absurd (cc (full, not_full))
    ] refl

module _ (tree : Tree) (dir : FileId) (name : List ℕ) (file : FileId) (is : IsTree tree) (there : child_of tree dir name ≡ Some file) (not_full : is_full_dir tree file ≡ false) where
  abbrev fewer : Tree
  fewer = removed tree dir name

  -- another file keeps its place
  place_stays : (d : FileId) (n : List ℕ) (f : FileId) → child_of tree d n ≡ Some f → (f ≡ file → ⊥) → child_of fewer d n ≡ Some f
  place_stays d n f h other =
      child_of-removed_elsewhere tree dir name d n (λ w. other (let e = ap (λ (x : FileId). child_of tree x n) w.0 in let g = ap (child_of tree dir) w.1 in cc (e, g, h, there))) ∙ h

  pub removed-IsTree : IsTree (removed tree dir name)
  removed-IsTree = record {
    root_is_dir = is.root_is_dir;
    ids_below_next = is.ids_below_next;
    next_fits = is.next_fits;
    has_manifest_files = is.has_manifest_files;
    others_are_later = is.others_are_later;
    links_have_names = λ d n f h. is.links_have_names d n f (child_of-removed_cases tree dir name d n f h).0;
    links_give_files = λ d n f h. is.links_give_files d n f (child_of-removed_cases tree dir name d n f h).0;
    links_stand_in_dirs = λ d n f h. is.links_stand_in_dirs d n f (child_of-removed_cases tree dir name d n f h).0;
    root_has_no_link = λ d n f h. is.root_has_no_link d n f (child_of-removed_cases tree dir name d n f h).0;
    links_are_apart = λ d e n m f h g. is.links_are_apart d e n m f (child_of-removed_cases tree dir name d n f h).0 (child_of-removed_cases tree dir name e m f g).0;
    links_are_reached = λ d n f h.
        let w = child_of-removed_cases tree dir name d n f h in
        let path = is.links_are_reached d n f w.0 in
        let other : f ≡ file → ⊥ = λ same. w.1 (is.links_are_apart d dir n name f w.0 (there ∙ ap (λ x. Some x) (sym same))) in
        (path.0, file_at-beside tree fewer file (no_links_below tree file is not_full) place_stays root path.0 f other path.1);
  }

  -- the file is unlinked, and every other file is linked as it was
  pub is_linked-removed : is_linked fewer file ≡ false
  is_linked-removed =
      elim (is_linked fewer file) as (λ b. is_linked fewer file ≡ b → b ≡ false) [
        | false ↦ λ e. refl
        | true ↦ λ e.
            let at = child_from_linked fewer file e in
            let w = child_of-removed_cases tree dir name at.0 at.1 file at.2 in
            absurd (w.1 (is.links_are_apart at.0 dir at.1 name file w.0 there))
      ] refl

  pub is_linked-removed_other : (f : FileId) → (f ≡ file → ⊥) → is_linked fewer f ≡ is_linked tree f
  is_linked-removed_other f other =
      elim (is_linked tree f) as (λ b. is_linked tree f ≡ b → is_linked fewer f ≡ b) [
        | true ↦ λ e. let at = child_from_linked tree f e in linked_from_child fewer at.0 at.1 f (place_stays at.0 at.1 f at.2 other)
        | false ↦ λ e. elim (is_linked fewer f) as (λ b. is_linked fewer f ≡ b → b ≡ false) [
          | false ↦ λ g. refl
          | true ↦ λ g.
              let at = child_from_linked fewer f g in
              let linked = linked_from_child tree at.0 at.1 f (child_of-removed_cases tree dir name at.0 at.1 f at.2).0 in
              absurd (cc (e, linked))
        ] refl
      ] refl

-- an empty directory, and what is no directory, is no directory with links
pub not_full-from_empty : (tree : Tree) (file : FileId) → is_empty_dir tree file ≡ true → is_full_dir tree file ≡ false
not_full-from_empty tree file h =
    let empty = and_parts (is_dir (kind_of tree file)) (not (has_links tree file)) h in
    and_right (is_dir (kind_of tree file)) (has_links tree file) (not-true (has_links tree file) empty.1)

pub not_full-from_file : (tree : Tree) (file : FileId) → kind_of tree file ≡ Some RegularFile → is_full_dir tree file ≡ false
not_full-from_file tree file h = ap (λ k. is_dir k && has_links tree file) h

pub not_full-from_link : (tree : Tree) (file : FileId) → kind_of tree file ≡ Some SymbolicLink → is_full_dir tree file ≡ false
not_full-from_link tree file h = ap (λ k. is_dir k && has_links tree file) h

pub ruleset not_full_rules = (not_full-from_empty, not_full-from_file, not_full-from_link)
