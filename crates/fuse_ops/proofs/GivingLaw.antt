-- What giving a number and forgetting one do to what a daemon knows.
use Rattle.std.proofs.Common.{◌≡◌, ℕ, ◌+◌, ◌<◌, Bool, true, false, List, [], ◌∷◌, ◌++◌, Option, Some, None, is_some, refl, sym, ap, ◌∙◌, subst, inl, inr, arith, lit<}
use Rattle.std.specs.Prelude.{nat_le, if◌then◌else◌}
use Rattle.std.specs.Option.{option_map_or}
use Rattle.std.proofs.lemmas.Bool.Decides.{nat_tests}
use Rattle.eden_base.proofs.MemberLemmas.{some-same}
use Rattle.eden_base.specs.First.{changed_where}
use Rattle.eden_base.specs.Limits.{greatest_count, end_of_numbers}
use Rattle.eden_base.specs.declared.number.FileId.{FileId}
use Rattle.eden_base.specs.declared.number.Number.{Number}
use Rattle.manifest.specs.Tree.{Tree}
use Rattle.entry_table.proofs.Changing.{raised-of_use, added-of_use, changed-extends, changed-extended, count_of-entry, count_of-none, count_of-alike, count-changed_same, count-changed_other}
use Rattle.entry_table.proofs.EntryLemmas.{append-same, append-other, changed-first, entry_of-first, numbers-bound, numbers-entry, next-none}
use Rattle.entry_table.proofs.FileLemmas.{IsFileOf-extended}
use Rattle.entry_table.proofs.Counting.{once-keeps}
use Rattle.entry_table.specs.Entries.{has_number, stands_at, entry_of, entry_at, once_more, new_entry, number_of_kept, IsFileOf}
use Rattle.inode_map.specs.InodeMap.{give_fault_at}
use Rattle.inode_map.specs.declared.inode_map.GiveFault.TheVariants.{NoNumber, TooMany}
use Rattle.entry_table.specs.declared.kept.Kept.{Kept}
use Rattle.fuse_ops.specs.Gifts.{served_over, Gave, IsPlaced, GivingLaw, NewLaw}
use Rattle.fuse_ops.specs.Served.{ServedState}
use Rattle.fuse_ops.proofs.Fits.{Fits, sound-fits, sound-of_use, fits-sound, place-file}
use Rattle.fuse_ops.proofs.FitsChanged.{fits-changed}
use Rattle.fuse_ops.proofs.FitsAdded.{IsNewPlace, fits-added, new-file, old-file, other-file}

-- the law of a new map, from which no number was given
pub new-sound : NewLaw
new-sound tree limit is = record {
  numbers = omega arith;
  numbers_fit = omega arith;
  names_a_file = λ n some. absurd (let none : ⊥ = cc in none);
  places_are_apart = λ m n one other e f same. absurd (let none : ⊥ = cc in none);
  files_are_apart = λ m n file s t e f. absurd (let none : ⊥ = cc in none);
  unlinked_alike = λ n kept file e f. absurd (let none : ⊥ = cc in none);
  each_of_use = λ n kept e. absurd (let none : ⊥ = cc in none);
  counts_fit = λ n kept e. absurd (let none : ⊥ = cc in none);
}

-- the count was not yet the greatest, and a number was left
below_greatest : (kept : Kept) → (if nat_le greatest_count kept.count then Some TooMany else None) ≡ None → kept.count < greatest_count
below_greatest kept h = in_ (nat_le greatest_count kept.count) refl h where
  in_ : (b : Bool) → nat_le greatest_count kept.count ≡ b → (if b then Some TooMany else None) ≡ None → kept.count < greatest_count
  in_ true e h' = absurd (let none : ⊥ = cc in none)
  in_ false e h' = grind (arith, nat_tests)

below_end : (next : ℕ) → (if nat_le end_of_numbers next then Some NoNumber else None) ≡ None → next < end_of_numbers
below_end next h = in_ (nat_le end_of_numbers next) refl h where
  in_ : (b : Bool) → nat_le end_of_numbers next ≡ b → (if b then Some NoNumber else None) ≡ None → next < end_of_numbers
  in_ true e h' = absurd (let none : ⊥ = cc in none)
  in_ false e h' = grind (arith, nat_tests)

-- the place has a number, which is counted once more
gives-again : (served : ServedState) (parent : ℕ) (name : List ℕ) (dir file : FileId) (kept : Kept) → IsPlaced served parent name dir file → entry_at served.map.entries parent name ≡ Some kept → kept.count < greatest_count →
    Gave served.tree served.map (record served.map { entries = changed_where (stands_at parent name) once_more served.map.entries }) kept.number.0 file
gives-again served parent name dir file kept place e few =
    subst (λ (xs : List Kept). Gave tree served.map (record served.map { entries = xs }) n file) (sym (changed-first es 2 next (stands_at parent name) once_more kept fits.numbers e)) (record {
      sound = fits-sound (served_over tree (record served.map { entries = new }))
          (fits-changed tree next es n once_more once-keeps (λ x f. let same : x ≡ kept = some-same (entry_of es n) x kept f entry in let c : x.count ≡ kept.count = ap (λ (k : Kept). k.count) same in omega arith) fits)
          (raised-of_use es n once_more once-keeps (λ x. omega arith) (sound-of_use served place.sound));
      names = forth n file at;
      others_name = λ m other d. (back m other, forth m other);
      raised = count-changed_same es n once_more kept once-keeps entry ∙ ap (λ c. c + 1) (sym (count_of-entry es n kept entry));
      others_count = λ m d. count-changed_other es n m once_more once-keeps d;
      old_or_next = inl (at, refl);
      low = (numbers-entry es 2 next n kept fits.numbers entry).0;
      high = (numbers-entry es 2 next n kept fits.numbers entry).1;
    }) where
      tree : Tree
      tree = served.tree

      next : ℕ
      next = served.map.next

      n : ℕ
      n = kept.number.0

      es : List Kept
      es = served.map.entries

      new : List Kept
      new = changed_where (has_number kept.number.0) once_more served.map.entries

      fits : Fits served.tree served.map.next served.map.entries
      fits = sound-fits served place.sound

      entry : entry_of served.map.entries kept.number.0 ≡ Some kept
      entry = entry_of-first served.map.entries 2 served.map.next (stands_at parent name) kept fits.numbers e

      at : IsFileOf served.tree served.map.entries kept.number.0 file
      at = place-file served.tree served.map.next served.map.entries fits parent kept dir file name place.at place.child e

      forth : (m : ℕ) (f : FileId) → IsFileOf served.tree served.map.entries m f → IsFileOf served.tree (changed_where (has_number kept.number.0) once_more served.map.entries) m f
      forth m f h = IsFileOf-extended served.tree served.map.entries (changed_where (has_number kept.number.0) once_more served.map.entries) m f (changed-extends served.map.entries kept.number.0 once_more once-keeps) h

      back : (m : ℕ) (f : FileId) → IsFileOf served.tree (changed_where (has_number kept.number.0) once_more served.map.entries) m f → IsFileOf served.tree served.map.entries m f
      back m f h = IsFileOf-extended served.tree (changed_where (has_number kept.number.0) once_more served.map.entries) served.map.entries m f (changed-extended served.map.entries kept.number.0 once_more once-keeps) h

-- the place gets the next number
gives-next : (served : ServedState) (parent : Number) (name : List ℕ) (dir file : FileId) → IsPlaced served parent.0 name dir file → entry_at served.map.entries parent.0 name ≡ None → served.map.next < end_of_numbers →
    Gave served.tree served.map (record served.map { entries = served.map.entries ++ new_entry served.map.next parent name ∷ []; next = served.map.next + 1; spare = 0 }) served.map.next file
gives-next served parent name dir file place e low = record {
  sound = fits-sound (served_over tree (record served.map { entries = new; next = next + 1; spare = 0 })) (fits-added tree next es parent name dir file place.is_tree fits goes)
      (added-of_use es next (new_entry next parent name) refl none (lit< tt) (sound-of_use served place.sound));
  names = new-file tree next es parent name dir file place.is_tree fits goes;
  others_name = λ m other d. (other-file tree next es parent name dir file place.is_tree fits goes m other d, old-file tree next es parent name dir file place.is_tree fits goes m other);
  raised = count_of-entry new next (new_entry next parent name) (append-same es next (new_entry next parent name) refl none) ∙ ap (λ c. c + 1) (sym (count_of-none es next none));
  others_count = λ m d. count_of-alike new es m (append-other es m (new_entry next parent name) (λ s. d (sym s)));
  old_or_next = inr (refl, refl);
  low = numbers-bound es 2 next fits.numbers;
  high = omega arith;
} where
  tree : Tree
  tree = served.tree

  next : ℕ
  next = served.map.next

  es : List Kept
  es = served.map.entries

  new : List Kept
  new = served.map.entries ++ new_entry served.map.next parent name ∷ []

  fits : Fits served.tree served.map.next served.map.entries
  fits = sound-fits served place.sound

  none : entry_of served.map.entries served.map.next ≡ None
  none = next-none served.map.entries served.map.next fits.numbers

  goes : IsNewPlace served.tree served.map.next served.map.entries parent name dir file
  goes = record { at = place.at; child = place.child; absent = e; fits = low }

-- Giving the number of a file.
pub gives-well : GivingLaw
gives-well served parent name dir file place accepted = in_ (entry_at served.map.entries parent.0 name) refl accepted where
  in_ : (o : Option Kept) → entry_at served.map.entries parent.0 name ≡ o → give_fault_at served.map o ≡ None →
      Gave served.tree served.map (if is_some o then record served.map { entries = changed_where (stands_at parent.0 name) once_more served.map.entries }
      else record served.map { entries = served.map.entries ++ new_entry served.map.next parent name ∷ []; next = served.map.next + 1; spare = 0 })
      (option_map_or number_of_kept o (record { 0 = served.map.next })).0 file
  in_ (Some kept) e free = gives-again served parent.0 name dir file kept place e (below_greatest kept free)
  in_ None e free = gives-next served parent name dir file place e (below_end served.map.next free)
