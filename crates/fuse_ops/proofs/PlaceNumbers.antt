-- Which number a place is given, and what stands against it, by the numbers that name its file.
use Rattle.std.proofs.Common.{◌≡◌, ℕ, List, Option, Some, None, refl, sym, ap, ◌∙◌, subst, inl, inr, ◌⊎◌}
use Rattle.std.specs.Option.{option_map_or}
use Rattle.std.specs.Prelude.{nat_le, if◌then◌else◌}
use Rattle.eden_base.specs.Limits.{greatest_count, end_of_numbers}
use Rattle.eden_base.specs.declared.number.FileId.{FileId}
use Rattle.entry_table.proofs.Changing.{count_of-entry}
use Rattle.entry_table.proofs.EntryLemmas.{entry_of-first}
use Rattle.entry_table.specs.Entries.{stands_at, entry_of, entry_at, count_of, number_of_kept}
use Rattle.inode_map.specs.InodeMap.{give_fault, give_fault_at, number_given}
use Rattle.inode_map.specs.declared.inode_map.GiveFault.TheVariants.{NoNumber, TooMany}
use Rattle.entry_table.specs.declared.kept.Kept.{Kept}
use Rattle.fuse_ops.specs.Gifts.{IsPlaced}
use Rattle.fuse_ops.specs.Served.{ServedState}
use Rattle.fuse_ops.specs.Soundness.{Names}
use Rattle.fuse_ops.proofs.Fits.{sound-fits, place-file, no-place-no_file}
use Rattle.fuse_ops.proofs.Known.{same-number}

module _ (served : ServedState) (parent : ℕ) (name : List ℕ) (dir file : FileId) (place : IsPlaced served parent name dir file) where
  -- A number of the file stands at the place.
  pub place-number : (n : ℕ) → Names served n file → (kept : Kept) × (entry_at served.map.entries parent name ≡ Some kept) × (kept.number.0 ≡ n)
  place-number n named = in_ (entry_at served.map.entries parent name) refl where
    in_ : (o : Option Kept) → entry_at served.map.entries parent name ≡ o → (kept : Kept) × (entry_at served.map.entries parent name ≡ Some kept) × (kept.number.0 ≡ n)
    in_ (Some kept) e = (
      kept,
      e,
      same-number served place.is_tree place.sound kept.number.0 n file
          (place-file served.tree served.map.next served.map.entries (sound-fits served place.sound) parent kept dir file name place.at place.child e) named,
    )
    in_ None e = absurd (no-place-no_file served.tree served.map.next served.map.entries place.is_tree (sound-fits served place.sound) parent dir file name place.at place.child e n named)

  -- a number that names the file is the one that its place is given
  pub given-number : (n : ℕ) → Names served n file → (number_given served.map parent name).0 ≡ n
  given-number n named = let p = place-number n named in
      ap (λ (o : Option Kept). (option_map_or number_of_kept o (record { 0 = served.map.next })).0) p.1 ∙ p.2

  -- and only the greatest count stands against it
  pub fault-held : (n : ℕ) → Names served n file → give_fault served.map parent name ≡ (if nat_le greatest_count (count_of served.map.entries n) then Some TooMany else None)
  fault-held n named =
      let p = place-number n named in
      let entry : entry_of served.map.entries p.0.number.0 ≡ Some p.0 = entry_of-first served.map.entries 2 served.map.next (stands_at parent name) p.0 place.sound.numbers p.1 in
      let count : count_of served.map.entries n ≡ p.0.count = subst (λ (m : ℕ). count_of served.map.entries m ≡ p.0.count) p.2 (count_of-entry served.map.entries p.0.number.0 p.0 entry) in
      ap (λ (o : Option Kept). give_fault_at served.map o) p.1 ∙ ap (λ (c : ℕ). if nat_le greatest_count c then Some TooMany else None) (sym count)

  -- where no number names the file, no entry stands at the place
  pub no-entry : ((n : ℕ) → Names served n file → ⊥) → entry_at served.map.entries parent name ≡ None
  no-entry free = in_ (entry_at served.map.entries parent name) refl where
    in_ : (o : Option Kept) → entry_at served.map.entries parent name ≡ o → entry_at served.map.entries parent name ≡ None
    in_ (Some kept) e = absurd (free kept.number.0 (place-file served.tree served.map.next served.map.entries (sound-fits served place.sound) parent kept dir file name place.at place.child e))
    in_ None e = e

  -- a place whose file has no number is given the next number, and only the end of numbers forbids it
  pub next-number : ((n : ℕ) → Names served n file → ⊥) → (number_given served.map parent name).0 ≡ served.map.next
  next-number free = ap (λ (o : Option Kept). (option_map_or number_of_kept o (record { 0 = served.map.next })).0) (no-entry free)

  pub fault-free : ((n : ℕ) → Names served n file → ⊥) → give_fault served.map parent name ≡ (if nat_le end_of_numbers served.map.next then Some NoNumber else None)
  fault-free free = ap (λ (o : Option Kept). give_fault_at served.map o) (no-entry free)

  -- some number names the file, or none does
  pub named-or-free : ((n : ℕ) × Names served n file) ⊎ ((n : ℕ) → Names served n file → ⊥)
  named-or-free = in_ (entry_at served.map.entries parent name) refl where
    in_ : (o : Option Kept) → entry_at served.map.entries parent name ≡ o → ((n : ℕ) × Names served n file) ⊎ ((n : ℕ) → Names served n file → ⊥)
    in_ (Some kept) e = inl (kept.number.0, place-file served.tree served.map.next served.map.entries (sound-fits served place.sound) parent kept dir file name place.at place.child e)
    in_ None e = inr (no-place-no_file served.tree served.map.next served.map.entries place.is_tree (sound-fits served place.sound) parent dir file name place.at place.child e)
