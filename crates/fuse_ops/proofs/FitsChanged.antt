-- What a daemon knows fits together after a count changed.
use Rattle.std.proofs.Common.{◌≡◌, ℕ, ◌≤◌, List, Some, sym, ◌∙◌, subst, inl, inr, ◌⊎◌}
use Rattle.std.specs.Prelude.{IsSome}
use Rattle.eden_base.proofs.MemberLemmas.{some-IsSome, some-is}
use Rattle.eden_base.specs.First.{changed_where}
use Rattle.eden_base.specs.Limits.{greatest_count}
use Rattle.eden_base.specs.declared.number.FileId.{FileId}
use Rattle.manifest.specs.Tree.{Tree}
use Rattle.entry_table.proofs.Changing.{KeepsPlace, WasEntry, changed-was, changed-extends, changed-extended}
use Rattle.entry_table.proofs.EntryLemmas.{numbers-changed}
use Rattle.entry_table.proofs.FileLemmas.{IsFileOf-extended}
use Rattle.entry_table.specs.Entries.{has_number, entry_of, IsFileOf}
use Rattle.entry_table.specs.declared.kept.Kept.{Kept}
use Rattle.fuse_ops.specs.Soundness.{IsUnlinkedPlace}
use Rattle.fuse_ops.proofs.Fits.{Fits}

pub fits-changed : (tree : Tree) (next : ℕ) (es : List Kept) (k : ℕ) (change : Kept → Kept) → KeepsPlace change → ((x : Kept) → entry_of es k ≡ Some x → (change x).count ≤ greatest_count) →
    Fits tree next es → Fits tree next (changed_where (has_number k) change es)
fits-changed tree next es k change keeps few fits = record {
  numbers = numbers-changed es 2 next (has_number k) change keeps.number fits.numbers;
  numbers_fit = fits.numbers_fit;
  names_a_file = λ n some. let f = fits.names_a_file n (some_before n some) in (f.0, IsFileOf-extended tree es new n f.0 (changed-extends es k change keeps) f.1, f.2);
  places_are_apart = λ m n one other e f same. let v = was m one e in let w = was n other f in fits.places_are_apart m n v.kept w.kept v.was w.was (sym v.place ∙ same ∙ w.place);
  files_are_apart = λ m n file s t e f. fits.files_are_apart m n file (some_before m s) (some_before n t) (back m file e) (back n file f);
  unlinked_alike = λ n now file e f. let w = was n now e in let u = fits.unlinked_alike n w.kept file w.was (back n file f) in
      (λ p. u.0 (subst IsUnlinkedPlace w.place p), λ p. subst IsUnlinkedPlace (sym w.place) (u.1 p));
  counts_fit = λ n now e. count_in n now (was n now e);
} where
  new : List Kept
  new = changed_where (has_number k) change es

  was : (m : ℕ) (now : Kept) → entry_of new m ≡ Some now → WasEntry es k m change now
  was m now e = changed-was es k m change now keeps e

  some_before : (m : ℕ) → IsSome (entry_of new m) → IsSome (entry_of es m)
  some_before m s = let now = some-is (entry_of new m) s in let w = was m now.0 now.1 in some-IsSome (entry_of es m) w.kept w.was

  back : (m : ℕ) (file : FileId) → IsFileOf tree new m file → IsFileOf tree es m file
  back m file h = IsFileOf-extended tree new es m file (changed-extended es k change keeps) h

  count_in : (n : ℕ) (now : Kept) → WasEntry es k n change now → now.count ≤ greatest_count
  count_in n now w = how_in w.how where
    how_in : ((n ≡ k) × (now ≡ change w.kept)) ⊎ ((n ≡ k → ⊥) × (now ≡ w.kept)) → now.count ≤ greatest_count
    how_in (inl (same, is)) = subst (λ (x : Kept). x.count ≤ greatest_count) (sym is) (few w.kept (subst (λ (j : ℕ). entry_of es j ≡ Some w.kept) same w.was))
    how_in (inr (other, is)) = subst (λ (x : Kept). x.count ≤ greatest_count) (sym is) (fits.counts_fit n w.kept w.was)
