-- What a daemon knows fits together over another tree, in which one file alone came to a name or lost it.
use Rattle.std.proofs.Common.{◌≡◌, ℕ, true, List, Some, sym, ap, ◌∙◌, subst, inl, inr, ◌⊎◌}
use Rattle.std.specs.Prelude.{◌↔◌, IsSome}
use Rattle.eden_base.specs.declared.number.FileId.{FileId}
use Rattle.eden_base.specs.declared.place.Place.TheVariants.{Unlinked}
use Rattle.manifest.specs.Tree.{Tree, file_of as tree_file}
use Rattle.checkout.specs.ChangedTree.{is_unlinked}
use Rattle.entry_table.proofs.FileLemmas.{IsFileOf-same}
use Rattle.entry_table.specs.Entries.{entry_of, AreNumbers, IsFileOf}
use Rattle.entry_table.specs.declared.kept.Kept.{Kept}
use Rattle.fuse_ops.specs.Soundness.{IsUnlinkedPlace}
use Rattle.fuse_ops.proofs.Fits.{Fits}
use Rattle.fuse_ops.proofs.FitsCarried.{AreCarried, named-carried, fits-carried}

-- An entry and what it was: it stands where it stood and names another file, or it is the file's and has its mark.
pub record WasNamed (old tree : Tree) (es : List Kept) (file : FileId) (m : ℕ) (now : Kept) : Type 0 where
  pub kept : Kept
  pub was : entry_of es m ≡ Some kept
  pub count : now.count ≡ kept.count
  pub how : ((now.place ≡ kept.place) × (IsFileOf old es m file → ⊥))
      ⊎ ((now.place ≡ Unlinked file) × IsFileOf old es m file × (is_unlinked tree file ≡ true))

-- entries and what they name are carried from one tree to another
pub record IsCarried (old tree : Tree) (next : ℕ) (es new : List Kept) (file : FileId) : Type 0 where
  pub numbers : AreNumbers 2 next new
  pub forward : (n : ℕ) (f : FileId) → IsFileOf old es n f → IsFileOf tree new n f
  pub was : (m : ℕ) (now : Kept) → entry_of new m ≡ Some now → WasNamed old tree es file m now
  pub files : (f : FileId) → IsSome (tree_file old f) → IsSome (tree_file tree f)
  pub alike : (f : FileId) → (f ≡ file → ⊥) → is_unlinked tree f ≡ is_unlinked old f

module _ (old tree : Tree) (next : ℕ) (es new : List Kept) (file : FileId) (fits : Fits old next es) (carried : IsCarried old tree next es new file) where
  marks_in : (n : ℕ) (now : Kept) (f : FileId) → WasNamed old tree es file n now → IsFileOf old es n f → IsUnlinkedPlace now.place ↔ (is_unlinked tree f ≡ true)
  marks_in n now f w at = how_in w.how where
    how_in : ((now.place ≡ w.kept.place) × (IsFileOf old es n file → ⊥)) ⊎ ((now.place ≡ Unlinked file) × IsFileOf old es n file × (is_unlinked tree file ≡ true)) → IsUnlinkedPlace now.place ↔ (is_unlinked tree f ≡ true)
    how_in (inl (p, others)) =
        let other : f ≡ file → ⊥ = λ s. others (subst (λ (x : FileId). IsFileOf old es n x) s at) in
        let alike : is_unlinked tree f ≡ is_unlinked old f = carried.alike f other in
        let u = fits.unlinked_alike n w.kept f w.was at in
        (λ q. alike ∙ u.0 (subst IsUnlinkedPlace p q), λ q. subst IsUnlinkedPlace (sym p) (u.1 (sym alike ∙ q)))
    how_in (inr (p, at', u)) =
        let same : f ≡ file = IsFileOf-same old es n f file at at' in
        (λ q. ap (is_unlinked tree) same ∙ u, λ q. subst IsUnlinkedPlace (sym p) tt)

  are_carried : AreCarried old tree next es new
  are_carried = record {
    numbers = carried.numbers;
    forward = carried.forward;
    was = λ m now e. let w = carried.was m now e in record { kept = w.kept; was = w.was; count = w.count; marks = λ f at. marks_in m now f w at };
    files = carried.files;
  }

  -- what a number names now it named before
  pub named-before : (n : ℕ) (f : FileId) → IsFileOf tree new n f → IsFileOf old es n f
  named-before = named-carried old tree next es new fits are_carried

  pub fits-over : Fits tree next new
  fits-over = fits-carried old tree next es new fits are_carried
