-- Which files some name leads to once one moved, and what the kernel is told of them.
use Rattle.std.proofs.Common.{◌≡◌, ℕ, true, false, List, Some, refl, sym, ap, inl, inr}
use Rattle.eden_base.specs.declared.number.FileId.{FileId}
use Rattle.manifest.specs.Tree.{Tree, child_of, IsTree}
use Rattle.checkout.specs.ChangedTree.{is_linked}
use Rattle.checkout.specs.RenamedTree.{renamed}
use Rattle.checkout.proofs.LinkLaws.{child_from_linked, linked_from_child}
use Rattle.checkout.proofs.AddedPlaces.{same_or_other}
use Rattle.checkout.proofs.RenameLaws.{child_of-renamed, child_of-renamed_cases, no_place, place_stays}

module _ (tree : Tree) (dir : FileId) (name : List ℕ) (to_dir : FileId) (to_name : List ℕ) (file : FileId) (there : child_of tree dir name ≡ Some file) (is : IsTree tree) where
  abbrev new : Tree
  new = renamed tree dir name to_dir to_name

  -- the file is linked still
  pub is_linked-renamed : is_linked new file ≡ true
  is_linked-renamed = linked_from_child new to_dir to_name file (child_of-renamed tree dir name to_dir to_name file there)

  -- what stood at the new name is not
  pub is_linked-renamed_replaced : (child_of tree to_dir to_name ≡ Some file → ⊥) → (u : FileId) → child_of tree to_dir to_name ≡ Some u → is_linked new u ≡ false
  is_linked-renamed_replaced other u at =
      elim (is_linked new u) as (λ b. is_linked new u ≡ b → b ≡ false) [
        | false ↦ λ _. refl
        | true ↦ λ e. let w = child_from_linked new u e in absurd (no_place tree dir name to_dir to_name file there is other w.0 w.1 u at w.2)
      ] refl

  -- every other file is as it was
  pub is_linked-renamed_other : (f : FileId) → (child_of tree to_dir to_name ≡ Some f → ⊥) → is_linked new f ≡ is_linked tree f
  is_linked-renamed_other f not_there =
      elim (same_or_other file f) [
        | inl same ↦
            let now = ap (is_linked new) same in
            let before = ap (is_linked tree) same in
            let yes = is_linked-renamed in
            let was = linked_from_child tree dir name file there in
            cc (now, before, yes, was)
        | inr apart ↦ others (λ same. apart (ap (λ (x : FileId). x.0) (sym same)))
      ]
    where
      others : (f ≡ file → ⊥) → is_linked new f ≡ is_linked tree f
      others other =
          elim (is_linked tree f) as (λ b. is_linked tree f ≡ b → is_linked new f ≡ b) [
            | true ↦ λ e. let at = child_from_linked tree f e in linked_from_child new at.0 at.1 f (place_stays tree dir name to_dir to_name file there is at.0 at.1 f at.2 other not_there)
            | false ↦ λ e. elim (is_linked new f) as (λ b. is_linked new f ≡ b → b ≡ false) [
              | false ↦ λ _. refl
              | true ↦ λ g.
                  let at = child_from_linked new f g in
                  elim (child_of-renamed_cases tree dir name to_dir to_name file there at.0 at.1 f at.2) [
                    | inl w ↦ absurd (other w.2)
                    | inr old ↦ let linked = linked_from_child tree at.0 at.1 f old.0 in absurd (cc (e, linked))
                  ]
            ] refl
          ] refl
