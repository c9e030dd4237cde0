-- What a daemon knows fits together over another tree and other entries, if each number names the file that it named.
use Rattle.std.proofs.Common.{◌≡◌, ℕ, ◌≤◌, true, List, Some, refl, sym, ap, ◌∙◌, subst, inl, inr, ◌⊎◌}
use Rattle.std.specs.Prelude.{◌↔◌, IsSome}
use Rattle.eden_base.proofs.MemberLemmas.{some-IsSome, some-is, some-same}
use Rattle.eden_base.specs.Limits.{greatest_count}
use Rattle.eden_base.specs.declared.number.FileId.{FileId}
use Rattle.manifest.specs.Tree.{Tree, root, file_of as tree_file}
use Rattle.checkout.specs.ChangedTree.{is_unlinked}
use Rattle.entry_table.proofs.FileLemmas.{IsFileOf-same, named-known}
use Rattle.entry_table.specs.Entries.{entry_of, AreNumbers, IsFileOf, is_root, is_child, is_marked}
use Rattle.entry_table.specs.declared.kept.Kept.{Kept}
use Rattle.fuse_ops.specs.Soundness.{IsUnlinkedPlace}
use Rattle.fuse_ops.proofs.Fits.{Fits, not-one}

-- An entry and what it was: it is counted as often, and has a mark exactly if its file has no name now.
pub record WasKept (old tree : Tree) (es : List Kept) (m : ℕ) (now : Kept) : Type 0 where
  pub kept : Kept
  pub was : entry_of es m ≡ Some kept
  pub count : now.count ≡ kept.count
  pub marks : (f : FileId) → IsFileOf old es m f → IsUnlinkedPlace now.place ↔ (is_unlinked tree f ≡ true)

-- entries and what they name are carried from one tree to another
pub record AreCarried (old tree : Tree) (next : ℕ) (es new : List Kept) : Type 0 where
  pub numbers : AreNumbers 2 next new
  pub forward : (n : ℕ) (f : FileId) → IsFileOf old es n f → IsFileOf tree new n f
  pub was : (m : ℕ) (now : Kept) → entry_of new m ≡ Some now → WasKept old tree es m now
  pub files : (f : FileId) → IsSome (tree_file old f) → IsSome (tree_file tree f)

-- entries at one place name one file
placed_alike : (tree : Tree) (es : List Kept) (m n : ℕ) (one other : Kept) (f : FileId) → (m ≡ 1 → ⊥) → (n ≡ 1 → ⊥) → entry_of es m ≡ Some one → entry_of es n ≡ Some other → one.place ≡ other.place →
    IsFileOf tree es m f → IsFileOf tree es n f
placed_alike tree es m n one other f not_m not_n e e' same (is_root _ _ is_one is) = absurd (not_m is_one)
placed_alike tree es m n one other f not_m not_n e e' same (is_child _ _ kept dir name above _ k l up c) =
    is_child n f other dir name above not_n e' (sym same ∙ ap (λ (x : Kept). x.place) (some-same (entry_of es m) one kept e k) ∙ l) up c
placed_alike tree es m n one other f not_m not_n e e' same (is_marked _ _ kept _ k l) =
    is_marked n f other not_n e' (sym same ∙ ap (λ (x : Kept). x.place) (some-same (entry_of es m) one kept e k) ∙ l)

module _ (old tree : Tree) (next : ℕ) (es new : List Kept) (fits : Fits old next es) (carried : AreCarried old tree next es new) where
  some_before : (m : ℕ) (now : Kept) → WasKept old tree es m now → IsSome (entry_of es m)
  some_before m now w = some-IsSome (entry_of es m) w.kept w.was

  -- what a number names now it named before
  pub named-carried : (n : ℕ) (f : FileId) → IsFileOf tree new n f → IsFileOf old es n f
  named-carried n f at = in_ (named-known tree new n f at) where
    in_ : (n ≡ 1) ⊎ ((now : Kept) × (entry_of new n ≡ Some now)) → IsFileOf old es n f
    in_ (inl one) = is_root n f one (IsFileOf-same tree new n f root at (is_root n root one refl))
    in_ (inr (now, e)) =
        let g = fits.names_a_file n (some_before n now (carried.was n now e)) in
        let same : g.0 ≡ f = IsFileOf-same tree new n g.0 f (carried.forward n g.0 g.1) at in
        subst (λ (x : FileId). IsFileOf old es n x) same g.1

  places_in : (m n : ℕ) (one other : Kept) → entry_of new m ≡ Some one → entry_of new n ≡ Some other → one.place ≡ other.place → m ≡ n
  places_in m n one other e e' same =
      let v = some_before m one (carried.was m one e) in
      let w = some_before n other (carried.was n other e') in
      let g = fits.names_a_file m v in
      let at = placed_alike tree new m n one other g.0 (not-one new next m one carried.numbers e) (not-one new next n other carried.numbers e') e e' same (carried.forward m g.0 g.1) in
      fits.files_are_apart m n g.0 v w g.1 (named-carried n g.0 at)

  pub fits-carried : Fits tree next new
  fits-carried = record {
    numbers = carried.numbers;
    numbers_fit = fits.numbers_fit;
    names_a_file = λ n some. let now = some-is (entry_of new n) some in let g = fits.names_a_file n (some_before n now.0 (carried.was n now.0 now.1)) in (g.0, carried.forward n g.0 g.1, carried.files g.0 g.2);
    places_are_apart = places_in;
    files_are_apart = λ m n f s t e g. let one = some-is (entry_of new m) s in let other = some-is (entry_of new n) t in
        fits.files_are_apart m n f (some_before m one.0 (carried.was m one.0 one.1)) (some_before n other.0 (carried.was n other.0 other.1)) (named-carried m f e) (named-carried n f g);
    unlinked_alike = λ n now f e at. (carried.was n now e).marks f (named-carried n f at);
    counts_fit = λ n now e. let w = carried.was n now e in subst (λ (c : ℕ). c ≤ greatest_count) (sym w.count) (fits.counts_fit n w.kept w.was);
  }
