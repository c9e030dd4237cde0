-- What a daemon knows fits together after a number of no use left.
use Rattle.std.proofs.Common.{◌≡◌, ℕ, true, false, List, Some, refl, sym, ap, ◌∙◌, subst, inl, inr, ◌⊎◌}
use Rattle.std.specs.List.{list_any}
use Rattle.eden_base.proofs.MemberLemmas.{some-IsSome, some-is, any-first}
use Rattle.eden_base.proofs.NumberTests.{eq-true, eq-or}
use Rattle.eden_base.specs.First.{without_where}
use Rattle.eden_base.specs.declared.number.FileId.{FileId}
use Rattle.eden_base.specs.declared.number.Number.{Number}
use Rattle.eden_base.specs.declared.place.Place.TheVariants.{Linked}
use Rattle.manifest.specs.Tree.{Tree}
use Rattle.entry_table.proofs.Changing.{count_of-entry, count_of-none, count_of-alike}
use Rattle.entry_table.proofs.EntryLemmas.{numbers-without, without-same, without-other}
use Rattle.entry_table.proofs.FileLemmas.{IsFileOf-extended, IsFileOf-left}
use Rattle.inode_map.proofs.Striking.{useless-entry}
use Rattle.inode_map.proofs.Walking.{left-entry}
use Rattle.entry_table.specs.Entries.{has_number, count_of, entry_of, is_in, is_kid_of, IsFileOf}
use Rattle.inode_map.specs.InodeMap.{is_useless}
use Rattle.entry_table.specs.declared.kept.Kept.{Kept}
use Rattle.fuse_ops.proofs.Fits.{Fits}

module _ (tree : Tree) (next : ℕ) (es : List Kept) (n : ℕ) (fits : Fits tree next es) (useless : is_useless es n ≡ true) where
  was : (m : ℕ) (now : Kept) → entry_of (without_where (has_number n) es) m ≡ Some now → (m ≡ n → ⊥) × (entry_of es m ≡ Some now)
  was m now e = left-entry es 2 next n m now fits.numbers e

  -- nothing stands in its directory
  alone : (k : ℕ) (kept : Kept) (dir : Number) (name : List ℕ) → entry_of es k ≡ Some kept → kept.place ≡ Linked dir name → dir.0 ≡ n → ⊥
  alone k kept dir name e l same =
      let u = useless-entry es n useless in
      let kid : is_kid_of n kept ≡ true = ap (is_in n) l ∙ eq-true dir.0 n same in
      let some : list_any (is_kid_of n) es ≡ true = any-first es (has_number k) (is_kid_of n) kept e kid in
      let c : true ≡ false = sym some ∙ u.1.no_kids in let none : ⊥ = cc in none

  -- what is left names what it named, and nothing else does
  pub left-file : (m : ℕ) (file : FileId) → (m ≡ n → ⊥) → IsFileOf tree es m file → IsFileOf tree (without_where (has_number n) es) m file
  left-file m file other at = IsFileOf-left tree es n m file alone other at

  pub left-named : (m : ℕ) (file : FileId) → IsFileOf tree (without_where (has_number n) es) m file → IsFileOf tree es m file
  left-named m file at = IsFileOf-extended tree (without_where (has_number n) es) es m file (λ k kept e. (kept, (was k kept e).1, refl)) at

  pub fits-left : Fits tree next (without_where (has_number n) es)
  fits-left = record {
    numbers = numbers-without es 2 next (has_number n) fits.numbers;
    numbers_fit = fits.numbers_fit;
    names_a_file = λ m some. let now = some-is (entry_of (without_where (has_number n) es) m) some in let l = was m now.0 now.1 in
        let f = fits.names_a_file m (some-IsSome (entry_of es m) now.0 l.1) in (f.0, left-file m f.0 l.0 f.1, f.2);
    places_are_apart = λ m k one other e f p. fits.places_are_apart m k one other (was m one e).1 (was k other f).1 p;
    files_are_apart = λ m k file s t e f. let one = some-is (entry_of (without_where (has_number n) es) m) s in let other = some-is (entry_of (without_where (has_number n) es) k) t in
        fits.files_are_apart m k file (some-IsSome (entry_of es m) one.0 (was m one.0 one.1).1) (some-IsSome (entry_of es k) other.0 (was k other.0 other.1).1) (left-named m file e) (left-named k file f);
    unlinked_alike = λ m now file e f. fits.unlinked_alike m now file (was m now e).1 (left-named m file f);
    counts_fit = λ m now e. fits.counts_fit m now (was m now e).1;
  }

  -- the counts stay, since it had none
  pub left-count : (m : ℕ) → count_of (without_where (has_number n) es) m ≡ count_of es m
  left-count m = count_in (eq-or m n) where
    count_in : (m ≡ n) ⊎ (m ≡ n → ⊥) → count_of (without_where (has_number n) es) m ≡ count_of es m
    count_in (inl same) =
        let u = useless-entry es n useless in
        subst (λ (j : ℕ). count_of (without_where (has_number n) es) j ≡ count_of es j) (sym same)
        (count_of-none (without_where (has_number n) es) n (without-same es 2 next n fits.numbers) ∙ sym u.1.no_count ∙ sym (count_of-entry es n u.0 u.1.entry))
    count_in (inr other) = count_of-alike (without_where (has_number n) es) es m (without-other es n m other)
