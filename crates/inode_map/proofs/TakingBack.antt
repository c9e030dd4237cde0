-- A number that was given again, and a forget that takes it back.
use Rattle.std.proofs.Common.{◌≡◌, ℕ, ◌+◌, ◌-◌, Bool, true, false, cond, List, [], ◌∷◌, Some, refl, ap, ◌∙◌, arith}
use Rattle.std.specs.Prelude.{◌==◌}
use Rattle.std.specs.Option.{option_map}
use Rattle.eden_base.proofs.NumberTests.{eq-false}
use Rattle.eden_base.specs.First.{changed_where}
use Rattle.entry_table.specs.Entries.{has_number, entry_of, count_of, once_more, lowered, is_bad_item}
use Rattle.inode_map.specs.InodeMap.{MapState, left_of_use, left_with, forgotten, loaded_number}
use Rattle.entry_table.specs.Table.{AreOfKept, file_number}
use Rattle.entry_table.specs.declared.kept.Kept.{Kept}
use Rattle.entry_table.proofs.Changing.{count_of-entry}
use Rattle.entry_table.proofs.EntryLemmas.{changed-same, numbers-entry}
use Rattle.entry_table.proofs.Counting.{less, good-item, once-keeps}
use Rattle.inode_map.proofs.Giving.{AreKept}
use Rattle.inode_map.proofs.Keeping.{left_with-all}
use Rattle.inode_map.proofs.Striking.{left_of_use-all}

-- the entries, of which one is counted once more
abbrev pub raised : List Kept → ℕ → List Kept
raised es n = changed_where (has_number n) once_more es

-- a count that was raised and is lowered is what it was
less-once : (x : Kept) → less 1 (once_more x) ≡ x
less-once x = let same : x.count + 1 - 1 ≡ x.count = omega arith in λ i. record x { count = same i }

-- entries of which one was raised and is lowered are what they were
lowered-raised : (es : List Kept) (n : ℕ) → lowered (raised es n) n 1 ≡ es
lowered-raised [] n = refl
lowered-raised (x ∷ es) n = in_ (x.number.0 == n) refl (lowered-raised es n) where
  in_ : (b : Bool) → (x.number.0 == n) ≡ b → lowered (raised es n) n 1 ≡ es → lowered (cond b (once_more x ∷ es) (x ∷ raised es n)) n 1 ≡ x ∷ es
  in_ true t rest = rw t (ap (λ (y : Kept). y ∷ es) (less-once x))
  in_ false t rest = rw t (ap (λ (ys : List Kept). x ∷ ys) rest)

-- and with them the map, since each entry is of use and what is loaded or remembered is of one
pub taken-back : (map : MapState) (n : ℕ) (kept : Kept) → AreKept map.next map.entries → AreOfKept loaded_number map.entries map.loaded → AreOfKept file_number map.entries map.remembered →
    entry_of map.entries n ≡ Some kept → forgotten (record map { entries = raised map.entries n }) n 1 ≡ map
taken-back map n kept are loaded files e =
    let r = numbers-entry map.entries 2 map.next n kept are.numbers e in
    let other : (n == 1) ≡ false = eq-false n 1 (λ one. omega (arith, r.0)) in
    let there : entry_of (raised map.entries n) n ≡ Some (once_more kept) = changed-same map.entries n once_more once-keeps.number ∙ ap (option_map once_more) e in
    let counted : count_of (raised map.entries n) n ≡ kept.count + 1 = count_of-entry (raised map.entries n) n (once_more kept) there in
    let good : is_bad_item (raised map.entries n) n 1 ≡ false = good-item (raised map.entries n) n 1 (λ none. omega arith) (omega arith) in
    let left : left_of_use (lowered (raised map.entries n) n 1) ≡ map.entries = ap left_of_use (lowered-raised map.entries n) ∙ left_of_use-all map.entries 2 map.next are.numbers are.of_use in
    rw (other, good) (ap (λ (es : List Kept). left_with es (record map { entries = raised map.entries n })) left ∙ left_with-all map.entries (record map { entries = raised map.entries n }) loaded files)
