-- What `rename` leaves of a tree, in the words of its callees.
use Rattle.std.proofs.Common.{◌≡◌, ◌≢◌, ℕ, ◌||◌, Bool, true, false, List, Option, Some, None, IfSome, refl, sym, ap, subst, ◌∙◌}
use Rattle.std.specs.FinMap.{FinMap, get, insert, remove}
use Rattle.std.specs.Ordering.{nat_cmp}
use Rattle.eden_base.specs.Name.{IsNameText}
use Rattle.eden_base.specs.declared.attr.Kind.TheVariants.{Dir}
use Rattle.eden_base.specs.declared.number.FileId.{FileId}
use Rattle.checkout.specs.declared.made.MadeFile.{MadeFile}
use Rattle.checkout.specs.ChangedTree.{is_full_dir, is_unlinked}
use Rattle.checkout.specs.Laying.{AreTaken}
use Rattle.checkout.specs.Overlay.{tree_over, IsOverlay}
use Rattle.checkout.specs.RenamedTree.{can_replace, renamed, IsAtOrAbove}
use Rattle.checkout.specs.UnlinkedFiles.{UnlinkedFiles, is_gone}
use Rattle.manifest.specs.Manifest.{Manifest}
use Rattle.manifest.specs.Tally.{Tally, count_of}
use Rattle.manifest.specs.Tree.{Tree, link_cmp, child_of, kind_of, links_from}
use Rattle.checkout.proofs.LosingPlaces.{goes_first, goes_next, goes_with}
use Rattle.checkout.proofs.OverlayLaws.{child_added}
use Rattle.checkout.proofs.OverlayRename.{is_file, rename-IsOverlay, tree_over-renamed}
use Rattle.checkout.proofs.RenameLaws.{not_full-from_replaced, renamed-IsTree}

module _ (m : Manifest) (made : FinMap nat_cmp MadeFile) (added : FinMap link_cmp FileId) (gone : ℕ → Bool) (lost : ℕ → ℕ) (next : ℕ) (is : IsOverlay m made added gone lost next) (self : Tree) (view : tree_over m made added gone next ≡ self)
    (dir : FileId) (name : List ℕ) (to_dir : FileId) (to_name : List ℕ) (file : FileId) (child : child_of self dir name ≡ Some file) where
  abbrev tree : Tree
  tree = tree_over m made added gone next

  abbrev base : FinMap link_cmp FileId
  base = links_from 2 m.lines

  here : child_of tree dir name ≡ Some file
  here = ap (λ (t : Tree). child_of t dir name) view ∙ child

  -- an added link under the old name gives the file, and no other does
  pub added_is : IfSome (get added (dir.0, name)) (λ other. other ≡ file)
  added_is =
      elim (get added (dir.0, name)) as (λ o. get added (dir.0, name) ≡ o → IfSome o (λ other. other ≡ file)) [
        | None ↦ λ _. tt
        | Some other ↦ λ k.
            let there = child_added m made added gone lost next is.parts dir name other k in
            let at = here in
            let same : other ≡ file = cc (there, at) in
            same
      ] refl

  pub added_once : (d : FileId) (n : List ℕ) → get added (d.0, n) ≡ Some file → (d ≡ dir) × (n ≡ name)
  added_once d n k = is.is_tree.links_are_apart d dir n name file (child_added m made added gone lost next is.parts d n file k) here

  module _ (replaced : Option FileId) (stood : child_of self to_dir to_name ≡ replaced) (other : replaced ≢ Some file) where
    other_here : child_of tree to_dir to_name ≡ Some file → ⊥
    other_here at = other (sym stood ∙ sym (ap (λ (t : Tree). child_of t to_dir to_name) view) ∙ at)

    -- the new name doesn't give it
    pub added_not : get added (to_dir.0, to_name) ≡ Some file → ⊥
    added_not k = other_here (child_added m made added gone lost next is.parts to_dir to_name file k)

    -- an added link there gives what is replaced
    pub added_stood : IfSome (get added (to_dir.0, to_name)) (λ u. replaced ≡ Some u)
    added_stood =
        elim (get added (to_dir.0, to_name)) as (λ o. get added (to_dir.0, to_name) ≡ o → IfSome o (λ u. replaced ≡ Some u)) [
          | None ↦ λ _. tt
          | Some u ↦ λ k. sym stood ∙ sym (ap (λ (t : Tree). child_of t to_dir to_name) view) ∙ child_added m made added gone lost next is.parts to_dir to_name u k
        ] refl

    module _ (fits : IfSome replaced (λ u. can_replace self file u ≡ true)) (not_above : IsAtOrAbove self file to_dir → ⊥)
        (is_dir : kind_of self to_dir ≡ Some Dir) (is_reached : is_unlinked self to_dir ≡ false) where
      fits_here : (u : FileId) → child_of tree to_dir to_name ≡ Some u → is_full_dir tree u ≡ false
      fits_here u at =
          let there : replaced ≡ Some u = sym stood ∙ sym (ap (λ (t : Tree). child_of t to_dir to_name) view) ∙ at in
          let of_u : can_replace self file u ≡ true = subst (λ o. IfSome o (λ r. can_replace self file r ≡ true)) there fits in
          not_full-from_replaced tree file u (ap (λ (t : Tree). can_replace t file u) view ∙ of_u)

      not_above_here : IsAtOrAbove tree file to_dir → ⊥
      not_above_here at = not_above (subst (λ (t : Tree). IsAtOrAbove t file to_dir) view at)

      pub rename-step : (added' : FinMap link_cmp FileId) (gone₁ gone₂ : UnlinkedFiles) (lost₂ : Tally) → IsNameText to_name → added' ≡ insert (remove added (dir.0, name)) (to_dir.0, to_name) file →
          ((q : ℕ) → is_gone gone₁ q ≡ (goes_with m (Some file) q || gone q)) →
          ((q : ℕ) → is_gone gone₂ q ≡ (goes_with m replaced q || is_gone gone₁ q)) →
          AreTaken m gone₂ lost₂ →
          IsOverlay m made added' (is_gone gone₂) (count_of lost₂) next × (tree_over m made added' (is_gone gone₂) next ≡ renamed self dir name to_dir to_name)
      rename-step added' gone₁ gone₂ lost₂ is_name a g₁ g₂ taken =
          let first = goes_first m made added gone lost next is self view dir name (Some file) child (is_gone gone₁) g₁ in
          let second = goes_next m made added gone lost next is self view to_dir to_name replaced stood (goes_with m (Some file)) (is_gone gone₁) (is_gone gone₂) g₁ g₂ in
          let goes : (q : ℕ) → is_gone gone₂ q ≡ (is_file base (to_dir.0, to_name) q || (is_file base (dir.0, name) q || gone q)) =
          λ q. second q ∙ ap (λ b. is_file base (to_dir.0, to_name) q || b) (first q) in
          let tree_is = renamed-IsTree tree dir name to_dir to_name file here is.is_tree fits_here (ap (λ (t : Tree). kind_of t to_dir) view ∙ is_dir) (ap (λ (t : Tree). is_unlinked t to_dir) view ∙ is_reached) other_here not_above_here is_name in
          rw a (
            rename-IsOverlay m made added gone lost next is dir name to_dir to_name file here (is_gone gone₂) goes (count_of lost₂) taken.are_lines taken.counted tree_is,
            tree_over-renamed m made added gone lost next is dir name to_dir to_name file here (is_gone gone₂) goes ∙ ap (λ (t : Tree). renamed t dir name to_dir to_name) view,
          )
