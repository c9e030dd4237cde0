-- What giving a number and forgetting one do to what a daemon knows.
use Rattle.std.proofs.Common.{◌≡◌, ℕ, ◌-◌, ◌≤◌, Bool, true, false, ◌||◌, List, Some, refl, sym, ap, ◌∙◌, inl, inr, ◌⊎◌, arith, length}
use Rattle.std.specs.Prelude.{◌==◌, nat_lt, if◌then◌else◌}
use Rattle.std.proofs.lemmas.Bool.Decides.{nat_tests}
use Rattle.eden_base.proofs.NumberTests.{eq-false, false-ne}
use Rattle.eden_base.specs.First.{without_where}
use Rattle.eden_base.specs.Limits.{greatest_count}
use Rattle.eden_base.specs.declared.number.FileId.{FileId}
use Rattle.manifest.specs.Tree.{Tree}
use Rattle.entry_table.proofs.Changing.{changed-extended, count_of-entry, count-changed_same, count-changed_other}
use Rattle.entry_table.proofs.FileLemmas.{IsFileOf-extended}
use Rattle.entry_table.proofs.Counting.{less, less-keeps, counted-entry}
use Rattle.inode_map.proofs.Forgetting.{lowered-others}
use Rattle.inode_map.proofs.Walking.{IsStruck, struck-keeps}
use Rattle.entry_table.specs.Entries.{has_number, entry_of, count_of, is_bad_item, lowered, IsFileOf}
use Rattle.inode_map.specs.InodeMap.{is_useless, left_of_use, left_with, forgotten}
use Rattle.inode_map.specs.declared.inode_map.Forgot.TheVariants.{Lowered, Dropped}
use Rattle.entry_table.specs.declared.kept.Kept.{Kept}
use Rattle.fuse_ops.specs.Gifts.{served_over, Forgets, IsTaken, ForgettingLaw, KeepsEntries, BadForgetLaw}
use Rattle.fuse_ops.specs.Served.{ServedState}
use Rattle.fuse_ops.specs.Soundness.{IsSound}
use Rattle.fuse_ops.proofs.Fits.{Fits, sound-fits, sound-of_use, fits-sound}
use Rattle.fuse_ops.proofs.FitsChanged.{fits-changed}
use Rattle.fuse_ops.proofs.FitsLeft.{fits-left, left-named, left-count}

-- what is neither nothing nor too much
counted_enough : (es : List Kept) (n k : ℕ) → is_bad_item es n k ≡ false → (1 ≤ k) × (k ≤ count_of es n)
counted_enough es n k h = in_ (k == 0) (nat_lt (count_of es n) k) refl refl h where
  in_ : (b c : Bool) → (k == 0) ≡ b → nat_lt (count_of es n) k ≡ c → (b || c) ≡ false → (1 ≤ k) × (k ≤ count_of es n)
  in_ true c e f h' = absurd (let none : ⊥ = cc in none)
  in_ false true e f h' = absurd (let none : ⊥ = cc in none)
  in_ false false e f h' = (let some : k ≡ 0 → ⊥ = false-ne k 0 e in omega arith, grind (arith, nat_tests))

-- what each number that leaves keeps, of the entries that were counted less
pub record IsLeft (tree : Tree) (next : ℕ) (old new : List Kept) : Type 0 where
  pub fits : Fits tree next new
  pub counts : (m : ℕ) → count_of new m ≡ count_of old m
  pub names : (m : ℕ) (file : FileId) → IsFileOf tree new m file → IsFileOf tree old m file

pub one-left : (tree : Tree) (next : ℕ) (old es : List Kept) (n : ℕ) → is_useless es n ≡ true → IsLeft tree next old es → IsLeft tree next old (without_where (has_number n) es)
one-left tree next old es n useless l = record {
  fits = fits-left tree next es n l.fits useless;
  counts = λ m. left-count tree next es n l.fits useless m ∙ l.counts m;
  names = λ m file at. l.names m file (left-named tree next es n l.fits useless m file at);
}

forgets-entries : (served : ServedState) (n k : ℕ) → IsSound served → 1 ≤ k → k ≤ count_of served.map.entries n →
    Forgets served.tree served.map (left_with (left_of_use (lowered served.map.entries n k)) served.map) n k
forgets-entries served n k sound some few = record {
  sound = fits-sound (served_over served.tree (left_with (left_of_use (lowered served.map.entries n k)) served.map)) left.kept.fits left.of_use;
  lowered = left.kept.counts n ∙ count-changed_same served.map.entries n (less k) entry.0 (less-keeps k) entry.1 ∙ ap (λ c. c - k) (sym (count_of-entry served.map.entries n entry.0 entry.1));
  others_count = λ m d. left.kept.counts m ∙ count-changed_other served.map.entries n m (less k) (less-keeps k) d;
  left_name = λ m file at. IsFileOf-extended served.tree (lowered served.map.entries n k) served.map.entries m file (changed-extended served.map.entries n (less k) (less-keeps k)) (left.kept.names m file at);
  next = refl;
} where
  entry : (kept : Kept) × (entry_of served.map.entries n ≡ Some kept)
  entry = counted-entry served.map.entries n (omega arith)

  fits : Fits served.tree served.map.next (lowered served.map.entries n k)
  fits = fits-changed served.tree served.map.next served.map.entries n (less k) (less-keeps k)
      (λ x e. let c : x.count ≤ greatest_count = sound.counts_fit n x e in omega arith) (sound-fits served sound)

  left : IsStruck (IsLeft served.tree served.map.next (lowered served.map.entries n k)) 2 served.map.next (left_of_use (lowered served.map.entries n k))
  left = struck-keeps (IsLeft served.tree served.map.next (lowered served.map.entries n k)) 2 served.map.next (λ es m numbers useless here. one-left served.tree served.map.next (lowered served.map.entries n k) es m useless here)
      (length (lowered served.map.entries n k)) (Some n) (lowered served.map.entries n k) (omega arith) fits.numbers (lowered-others served.map.entries n k (sound-of_use served sound))
      (record { fits = fits; counts = λ m. refl; names = λ m file at. at })

-- Forgetting a number.
pub forgets-well : ForgettingLaw
forgets-well served n k is sound other good =
    let not_root : (n == 1) ≡ false = eq-false n 1 other in
    let enough = counted_enough served.map.entries n k good in
    rw (not_root, good) (taken_in (is_useless (lowered served.map.entries n k) n), forgets-entries served n k sound enough.0 enough.1) where
      taken_in : (b : Bool) → IsTaken (if b then Dropped else Lowered)
      taken_in true = inr refl
      taken_in false = inl refl

-- a bad forget and the root's change neither entries nor the next number
pub bad-keeps : BadForgetLaw
bad-keeps served n k sound why = in_ (n == 1) (is_bad_item served.map.entries n k) refl refl why where
  same_sound : (bad : ℕ) → IsSound (served_over served.tree (record served.map { bad_items = bad }))
  same_sound bad = fits-sound (served_over served.tree (record served.map { bad_items = bad })) (sound-fits served sound) (sound-of_use served sound)

  in_ : (b c : Bool) → (n == 1) ≡ b → is_bad_item served.map.entries n k ≡ c → (n ≡ 1) ⊎ (is_bad_item served.map.entries n k ≡ true) → KeepsEntries served.tree served.map (forgotten served.map n k)
  in_ true c e f h = rw e (record { sound = same_sound served.map.bad_items; entries = refl; next = refl })
  in_ false true e f h = rw (e, f) (record { sound = same_sound _; entries = refl; next = refl })
  in_ false false e f (inl one) = absurd (false-ne n 1 e one)
  in_ false false e f (inr bad) = absurd (let c : false ≡ true = sym f ∙ bad in let none : ⊥ = cc in none)
