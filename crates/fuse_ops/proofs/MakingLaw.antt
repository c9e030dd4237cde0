-- What numbers name when a file is made.
use Rattle.std.proofs.Common.{◌≡◌, ℕ, ◌<◌, List, Some, None, refl, sym, ap, ◌∙◌, subst, inl, inr, ◌⊎◌, arith, not, ◌&&◌, ◌==◌}
use Rattle.std.specs.Prelude.{IsSome}
use Rattle.eden_base.proofs.MemberLemmas.{some-IsSome}
use Rattle.eden_base.specs.declared.attr.MadeKind.{MadeKind}
use Rattle.eden_base.specs.declared.attr.Perm.{Perm}
use Rattle.eden_base.specs.declared.number.FileId.{FileId}
use Rattle.checkout.proofs.AttrLaws.{is_linked-created_other}
use Rattle.checkout.proofs.CreateLaws.{child_of-created_elsewhere, file_of-created_other, dir_is_below}
use Rattle.manifest.proofs.ManifestTree.{same_id}
use Rattle.manifest.specs.Tree.{Tree, IsTree, child_of, root, file_of as tree_file}
use Rattle.checkout.specs.ChangedTree.{is_unlinked, next_file, created}
use Rattle.entry_table.proofs.FileLemmas.{IsFileOf-same, named-known}
use Rattle.entry_table.specs.Entries.{entry_of, IsFileOf, is_root, is_child, is_marked}
use Rattle.entry_table.specs.declared.kept.Kept.{Kept}
use Rattle.fuse_ops.specs.Changes.{MakingLaw}
use Rattle.fuse_ops.proofs.Fits.{Fits, sound-fits, sound-of_use, fits-sound, root-named}
use Rattle.fuse_ops.proofs.FitsOver.{IsCarried, named-before, fits-over}

module _ (tree : Tree) (next : ℕ) (es : List Kept) (dir : FileId) (name : List ℕ) (kind : MadeKind) (perm : Perm) (is : IsTree tree) (fits : Fits tree next es) (free : child_of tree dir name ≡ None) where
  -- a name that gave a file still gives it
  pub stays : (n : ℕ) (f : FileId) → IsFileOf tree es n f → IsFileOf (created tree dir name kind perm) es n f
  stays n f (is_root _ _ one same) = is_root n f one same
  stays n f (is_child _ _ kept d nm above not e l up c) =
      is_child n f kept d nm above not e l (stays d.0 above up)
      (child_of-created_elsewhere tree dir name kind perm above nm (λ w. let a = ap (λ (x : FileId). child_of tree x nm) w.0 in let b = ap (child_of tree dir) w.1 in cc (a, b, c, free)) ∙ c)
  stays n f (is_marked _ _ kept not e l) = is_marked n f kept not e l

  below : (f : FileId) → IsSome (tree_file tree f) → f.0 ≡ tree.next_file → ⊥
  below f there same = let low : f.0 < tree.next_file = is.ids_below_next f there in omega arith

  -- no number names the file yet
  pub new-named : (m : ℕ) → IsFileOf tree es m (next_file tree) → ⊥
  new-named m at = in_ (named-known tree es m (next_file tree) at) where
    in_ : (m ≡ 1) ⊎ ((kept : Kept) × (entry_of es m ≡ Some kept)) → ⊥
    in_ (inl one) = let r : tree.next_file ≡ 1 = root-named tree es m (next_file tree) one at in let low : 1 < tree.next_file = dir_is_below tree is root is.root_is_dir in omega arith
    in_ (inr (kept, e)) =
        let g = fits.names_a_file m (some-IsSome (entry_of es m) kept e) in
        let same : g.0 ≡ next_file tree = IsFileOf-same tree es m g.0 (next_file tree) g.1 at in
        below g.0 g.2 (ap (λ (x : FileId). x.0) same)

  alike : (f : FileId) → (f ≡ next_file tree → ⊥) → is_unlinked (created tree dir name kind perm) f ≡ is_unlinked tree f
  alike f other = ap (λ b. not (f.0 == 1) && not b) (is_linked-created_other tree dir name kind perm free f (λ e. other (same_id f (next_file tree) e)))

  pub carried-made : IsCarried tree (created tree dir name kind perm) next es es (next_file tree)
  carried-made = record {
    numbers = fits.numbers;
    forward = stays;
    was = λ m now e. record { kept = now; was = e; count = refl; how = inl (refl, new-named m) };
    files = λ f there. subst (λ o. IsSome o) (sym (file_of-created_other tree dir name kind perm f (below f there))) there;
    alike = alike;
  }

-- Making a file leaves what every number names.
pub making-keeps : MakingLaw
making-keeps served dir name kind perm is sound free = record {
  sound = fits-sound (record served { tree = created served.tree dir name kind perm }) (fits-over served.tree (created served.tree dir name kind perm) served.map.next served.map.entries served.map.entries (next_file served.tree) fits carried) (sound-of_use served sound);
  counts = λ n. refl;
  names = named-before served.tree (created served.tree dir name kind perm) served.map.next served.map.entries served.map.entries (next_file served.tree) fits carried;
  next = refl;
} where
  fits : Fits served.tree served.map.next served.map.entries
  fits = sound-fits served sound

  carried : IsCarried served.tree (created served.tree dir name kind perm) served.map.next served.map.entries served.map.entries (next_file served.tree)
  carried = carried-made served.tree served.map.next served.map.entries dir name kind perm is fits free
