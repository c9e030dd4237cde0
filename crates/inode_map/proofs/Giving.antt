-- The entries after a number was given.
use Rattle.std.proofs.Common.{◌≡◌, ℕ, ◌+◌, ◌<◌, ◌≤◌, true, false, List, [], ◌∷◌, ◌++◌, Option, Some, None, refl, sym, ap, ◌∙◌, subst, is_some, arith}
use Rattle.std.specs.Prelude.{nat_le, nat_lt, if◌then◌else◌}
use Rattle.std.specs.Option.{option_map}
use Rattle.std.proofs.lemmas.Bool.Decides.{nat_tests}
use Rattle.eden_base.specs.First.{changed_where}
use Rattle.eden_base.specs.Limits.{greatest_count}
use Rattle.eden_base.specs.declared.number.Number.{Number}
use Rattle.entry_table.specs.EntryPlaces.{AreOfUseBut}
use Rattle.entry_table.specs.Entries.{has_number, stands_at, entry_of, entry_at, count_of, number_of_kept, once_more, AreNumbers}
use Rattle.inode_map.specs.InodeMap.{MapState, give_fault, give_fault_at, given}
use Rattle.inode_map.specs.declared.inode_map.GiveFault.TheVariants.{TooMany}
use Rattle.entry_table.specs.declared.kept.Kept.{Kept}
use Rattle.entry_table.proofs.Counting.{once-keeps}
use Rattle.entry_table.proofs.Changing.{raised-of_use, added-of_use, count_of-entry}
use Rattle.entry_table.proofs.EntryLemmas.{changed-first, entry_of-first, entry_of-number, next-none, numbers-append, numbers-changed}

-- numbers that rise, each of use
pub record AreKept (next : ℕ) (es : List Kept) : Type 0 where
  pub numbers : AreNumbers 2 next es
  pub of_use : AreOfUseBut None es

-- the entry of a number that a place has
pub record Has (es : List Kept) (parent : ℕ) (name : List ℕ) (number : Number) : Type 0 where
  pub kept : Kept
  pub at : entry_at es parent name ≡ Some kept
  pub entry : entry_of es number.0 ≡ Some kept

pub has-entry : (es : List Kept) (low next parent : ℕ) (name : List ℕ) (number : Number) → AreNumbers low next es → Some number ≡ option_map number_of_kept (entry_at es parent name) → Has es parent name number
has-entry es low next parent name number are has = in_ (entry_at es parent name) refl has where
  in_ : (o : Option Kept) → entry_at es parent name ≡ o → Some number ≡ option_map number_of_kept o → Has es parent name number
  in_ None e h = absurd (let none : ⊥ = cc in none)
  in_ (Some kept) e h =
      let same : kept.number ≡ number = cc in
      record { kept = kept; at = e; entry = subst (λ (k : Number). entry_of es k.0 ≡ Some kept) same (entry_of-first es low next (stands_at parent name) kept are e) }

pub again-full : (map : MapState) (parent : ℕ) (name : List ℕ) (number : Number) (count : ℕ) → AreNumbers 2 map.next map.entries → Some number ≡ option_map number_of_kept (entry_at map.entries parent name) →
    count ≡ count_of map.entries number.0 → greatest_count ≤ count → give_fault map parent name ≡ Some TooMany
again-full map parent name number count are has is full =
    let h = has-entry map.entries 2 map.next parent name number are has in
    let same : count ≡ h.kept.count = is ∙ count_of-entry map.entries number.0 h.kept h.entry in
    let t : nat_le greatest_count h.kept.count ≡ true = full_in h.kept.count (subst (λ (m : ℕ). greatest_count ≤ m) same full) in
    ap (give_fault_at map) h.at ∙ ap (λ b. if b then Some TooMany else None) t
  where
    full_in : (m : ℕ) → greatest_count ≤ m → nat_le greatest_count m ≡ true
    full_in m e = grind (arith, nat_tests)

pub again-free : (map : MapState) (parent : ℕ) (name : List ℕ) (number : Number) (count : ℕ) → AreNumbers 2 map.next map.entries → Some number ≡ option_map number_of_kept (entry_at map.entries parent name) →
    count ≡ count_of map.entries number.0 → count < greatest_count → give_fault map parent name ≡ None
again-free map parent name number count are has is free =
    let h = has-entry map.entries 2 map.next parent name number are has in
    let same : count ≡ h.kept.count = is ∙ count_of-entry map.entries number.0 h.kept h.entry in
    let t : nat_le greatest_count h.kept.count ≡ false = free_in h.kept.count (subst (λ (m : ℕ). m < greatest_count) same free) in
    ap (give_fault_at map) h.at ∙ ap (λ b. if b then Some TooMany else None) t
  where
    free_in : (m : ℕ) → m < greatest_count → nat_le greatest_count m ≡ false
    free_in m e = grind (arith, nat_tests)

-- a count that may rise is below the greatest
pub is-full : (m : ℕ) → false ≡ nat_lt m greatest_count → greatest_count ≤ m
is-full m e = grind (arith, nat_tests)

pub is-free : (m : ℕ) → true ≡ nat_lt m greatest_count → m < greatest_count
is-free m e = grind (arith, nat_tests)

-- counted once more, where the place is
pub again-given : (map : MapState) (parent : Number) (name : List ℕ) (number : Number) → AreNumbers 2 map.next map.entries → Some number ≡ option_map number_of_kept (entry_at map.entries parent.0 name) →
    record map { entries = changed_where (has_number number.0) once_more map.entries } ≡ given map parent name
again-given map parent name number are has =
    let h = has-entry map.entries 2 map.next parent.0 name number are has in
    let found : is_some (entry_at map.entries parent.0 name) ≡ true = ap (λ (o : Option Kept). is_some o) h.at in
    let it : h.kept.number.0 ≡ number.0 = entry_of-number map.entries number.0 h.kept h.entry in
    let changed : changed_where (has_number number.0) once_more map.entries ≡ changed_where (stands_at parent.0 name) once_more map.entries =
    ap (λ (n : ℕ). changed_where (has_number n) once_more map.entries) (sym it) ∙ sym (changed-first map.entries 2 map.next (stands_at parent.0 name) once_more h.kept are h.at) in
    rw found (ap (λ (entries : List Kept). record map { entries = entries }) changed)

pub again-kept : (es : List Kept) (next n : ℕ) → AreKept next es → AreKept next (changed_where (has_number n) once_more es)
again-kept es next n are = record {
  numbers = numbers-changed es 2 next (has_number n) once_more (λ x. refl) are.numbers;
  of_use = raised-of_use es n once_more once-keeps (λ y. omega arith) are.of_use;
}

-- the next number was added, and is held
pub kept-new : (es : List Kept) (next : ℕ) (x : Kept) → AreKept next es → x.number.0 ≡ next → 0 < x.count → AreKept (next + 1) (es ++ x ∷ [])
kept-new es next x are same some = record {
  numbers = numbers-append es 2 next x are.numbers same;
  of_use = added-of_use es next x same (next-none es next are.numbers) some are.of_use;
}
