-- What the kernel is told of files when one is made, or a link taken away.
use Rattle.std.proofs.Common.{◌≡◌, ℕ, ◌==◌, ◌&&◌, not, Bool, true, false, if◌then◌else◌, List, Some, None, refl, ap, ◌∙◌, inl, inr}
use Rattle.std.proofs.Math.Bool.{and-false}
use Rattle.std.specs.Option.{option_map}
use Rattle.eden_base.specs.declared.attr.Attr.{Attr}
use Rattle.eden_base.specs.declared.attr.MadeKind.{MadeKind}
use Rattle.eden_base.specs.declared.attr.Perm.{Perm}
use Rattle.eden_base.specs.declared.number.FileId.{FileId}
use Rattle.manifest.specs.Manifest.{File}
use Rattle.manifest.specs.Tree.{Tree, child_of, nlink_of_kind}
use Rattle.checkout.specs.ChangedTree.{is_linked, is_unlinked, next_file, made_file, attr_of, created}
use Rattle.checkout.proofs.CreateLaws.{child_of-created, child_of-created_elsewhere, child_of-created_cases, file_of-created}
use Rattle.checkout.proofs.LinkLaws.{linked_from_child, child_from_linked}

-- the attributes of a file, which is unlinked or not
abbrev pub told : Bool → File → Attr
told unlinked f = record { kind = f.kind; perm = f.perm; size = f.size; nlink = if unlinked then 0 else nlink_of_kind f.kind }

module _ (tree : Tree) (dir : FileId) (name : List ℕ) (kind : MadeKind) (perm : Perm) where
  abbrev new : Tree
  new = created tree dir name kind perm

  -- the file is linked, and every other file is as it was
  pub is_linked-created : is_linked new (next_file tree) ≡ true
  is_linked-created = linked_from_child new dir name (next_file tree) (child_of-created tree dir name kind perm)

  pub is_linked-created_other : child_of tree dir name ≡ None → (file : FileId) → (file.0 ≡ tree.next_file → ⊥) → is_linked new file ≡ is_linked tree file
  is_linked-created_other free file other =
      elim (is_linked tree file) as (λ b. is_linked tree file ≡ b → is_linked new file ≡ b) [
        | true ↦ λ e.
            let at = child_from_linked tree file e in
            let stays = child_of-created_elsewhere tree dir name kind perm at.0 at.1 (λ w. let d = ap (λ (f : FileId). child_of tree f at.1) w.0 in let n = ap (child_of tree dir) w.1 in let there = at.2 in cc (d, n, there, free)) in
            linked_from_child new at.0 at.1 file (stays ∙ at.2)
        | false ↦ λ e. elim (is_linked new file) as (λ b. is_linked new file ≡ b → b ≡ false) [
          | false ↦ λ g. refl
          | true ↦ λ g.
              let at = child_from_linked new file g in
              elim (child_of-created_cases tree dir name kind perm at.0 at.1 file at.2) [
                | inl w ↦ absurd (other (ap (λ (f : FileId). f.0) w.2))
                | inr old ↦ let linked = linked_from_child tree at.0 at.1 file old in absurd (cc (e, linked))
              ]
        ] refl
      ] refl

  pub attr_of-created : attr_of new (next_file tree) ≡ Some (told false (made_file kind perm))
  attr_of-created =
      ap (option_map (told (is_unlinked new (next_file tree)))) (file_of-created tree dir name kind perm)
      ∙ ap (λ b. Some (told b (made_file kind perm))) (ap (λ b. not (tree.next_file == 1) && not b) is_linked-created ∙ and-false (not (tree.next_file == 1)))
