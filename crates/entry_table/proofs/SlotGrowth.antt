-- The slots of a table where one is added, the empty ones go, or something is put beside an entry.
use Rattle.std.proofs.Common.{◌≡◌, ℕ, suc, length, ◌+◌, ◌<◌, ◌≤◌, Bool, true, false, List, [], ◌∷◌, ◌++◌, Option, Some, None, is_some, refl, sym, ap, ◌∙◌, inl, inr, ◌⊎◌, arith}
use Rattle.std.specs.Prelude.{nat_lt}
use Rattle.std.specs.List.{filter}
use Rattle.std.specs.Map.{set_value}
use Rattle.std.specs.Ordering.{nat_cmp}
use Rattle.std.specs.Cmp.{nat_cmp_is}
use Rattle.std.specs.declared.cmp.Ordering.TheVariants.{Less, Equal, Greater}
use Rattle.std.specs.BTreeMap.{is_at, insert_entry}
use Rattle.std.proofs.lemmas.Bool.Decides.{nat_tests}
use Rattle.eden_base.proofs.NumberTests.{eq-or}
use Rattle.entry_table.proofs.SlotLemmas.{at-same, at-other, kept-append, slots-behind, slots-none}
use Rattle.entry_table.proofs.SlotWrites.{found-behind, found-here}
use Rattle.entry_table.specs.Slots.{kept_from, slot_at, first_beside, all_beside, AreSlots}
use Rattle.entry_table.specs.Table.{kept_of}
use Rattle.entry_table.specs.declared.kept.Kept.{Kept}
use Rattle.entry_table.specs.declared.kept.Entry.{Entry}

-- the next number is given: its slot is the last
module _ (next : ℕ) (h : Entry) where
  abbrev pub pushed : List (ℕ × Option Entry) → List (ℕ × Option Entry)
  pushed es = es ++ (next, Some h) ∷ []

  pub pushed-slots : (es : List (ℕ × Option Entry)) (low : ℕ) → AreSlots low next es → AreSlots low (next + 1) (pushed es)
  pushed-slots [] low are = (are, omega arith)
  pushed-slots ((m, o) ∷ es) low are = (are.0, pushed-slots es (m + 1) are.1)

  pub pushed-kept : (es : List (ℕ × Option Entry)) → kept_from (pushed es) ≡ kept_from es ++ kept_of next h ∷ []
  pushed-kept es = kept-append es ((next, Some h) ∷ [])

  module _ {X : Type 0} (part : Entry → Option X) where
    pub pushed-beside : (es : List (ℕ × Option Entry)) → part h ≡ None → all_beside part (pushed es) ≡ all_beside part es
    pushed-beside [] new = ap (λ (o : Option X). first_beside next o []) new
    pushed-beside ((m, Some g) ∷ es) new = ap (first_beside m (part g)) (pushed-beside es new)
    pushed-beside ((m, None) ∷ es) new = pushed-beside es new

-- the slot isn't empty
abbrev pub is_full : ℕ × Option Entry → Bool
is_full slot = is_some slot.1

-- without the empty slots
pub full-slots : (es : List (ℕ × Option Entry)) (low next : ℕ) → AreSlots low next es → AreSlots low next (filter is_full es)
full-slots [] low next are = are
full-slots ((m, Some h) ∷ es) low next are = (are.0, full-slots es (m + 1) next are.1)
full-slots ((m, None) ∷ es) low next are = full-slots es low next (slots-behind es None low m next are)

pub full-kept : (es : List (ℕ × Option Entry)) → kept_from (filter is_full es) ≡ kept_from es
full-kept [] = refl
full-kept ((m, Some h) ∷ es) = ap (λ (xs : List Kept). kept_of m h ∷ xs) (full-kept es)
full-kept ((m, None) ∷ es) = full-kept es

pub full-length : (es : List (ℕ × Option Entry)) → length (filter is_full es) ≡ length (kept_from es)
full-length [] = refl
full-length ((m, Some h) ∷ es) = ap suc (full-length es)
full-length ((m, None) ∷ es) = full-length es

pub full-beside : {X : Type 0} (part : Entry → Option X) (es : List (ℕ × Option Entry)) → all_beside part (filter is_full es) ≡ all_beside part es
full-beside part [] = refl
full-beside part ((m, Some h) ∷ es) = ap (first_beside m (part h)) (full-beside part es)
full-beside part ((m, None) ∷ es) = full-beside part es

cmp-less : (m n : ℕ) → m < n → nat_cmp m n ≡ Less
cmp-less m n h = sym (nat_cmp_is m n Less h)

cmp-same : (m n : ℕ) → m ≡ n → nat_cmp m n ≡ Equal
cmp-same m n h = sym (nat_cmp_is m n Equal h)

cmp-greater : (m n : ℕ) → n < m → nat_cmp m n ≡ Greater
cmp-greater m n h = sym (nat_cmp_is m n Greater h)

-- something is put beside an entry
module _ {X : Type 0} (part : Entry → Option X) (next : ℕ) (n : ℕ) (x : X) where
  low_first : (es : List (ℕ × Option Entry)) (low : ℕ) → AreSlots low next es → n < low → insert_entry nat_cmp (all_beside part es) n x ≡ (n, x) ∷ all_beside part es
  low_first [] low are less = refl
  low_first ((m, Some g) ∷ es) low are less = in_ (part g) (let a : low ≤ m = are.0 in low_first es (m + 1) are.1 (omega arith)) where
    in_ : (o : Option X) → insert_entry nat_cmp (all_beside part es) n x ≡ (n, x) ∷ all_beside part es → insert_entry nat_cmp (first_beside m o (all_beside part es)) n x ≡ (n, x) ∷ first_beside m o (all_beside part es)
    in_ None rest = rest
    in_ (Some y) rest = let a : low ≤ m = are.0 in let c : nat_cmp n m ≡ Less = cmp-less n m (omega arith) in rw c refl
  low_first ((m, None) ∷ es) low are less = let a : low ≤ m = are.0 in low_first es (m + 1) are.1 (omega arith)

  pub set-put : (h now : Entry) → part now ≡ Some x → (es : List (ℕ × Option Entry)) (low : ℕ) → AreSlots low next es → slot_at es n ≡ Some (Some h) →
      all_beside part (set_value (is_at (nat_cmp n)) es (Some now)) ≡ insert_entry nat_cmp (all_beside part es) n x
  set-put h now is [] low are found = absurd (let none : ⊥ = cc in none)
  set-put h now is ((m, Some g) ∷ es) low are found = in_ (eq-or m n) (λ there. set-put h now is es (m + 1) are.1 there) where
    here : (o : Option X) → m ≡ n → (m, x) ∷ all_beside part es ≡ insert_entry nat_cmp (first_beside m o (all_beside part es)) n x
    here None same = ap (λ (k : ℕ). (k, x) ∷ all_beside part es) same ∙ sym (low_first es (m + 1) are.1 (omega arith))
    here (Some y) same = let c : nat_cmp n m ≡ Equal = cmp-same n m (sym same) in rw c refl

    there : (o : Option X) → m < n → (xs : List (ℕ × X)) → xs ≡ insert_entry nat_cmp (all_beside part es) n x → first_beside m o xs ≡ insert_entry nat_cmp (first_beside m o (all_beside part es)) n x
    there None high xs e = e
    there (Some y) high xs e = let c : nat_cmp n m ≡ Greater = cmp-greater n m high in rw c (ap (λ (ys : List (ℕ × X)). (m, y) ∷ ys) e)

    above : (m ≡ n → ⊥) → slot_at es n ≡ Some (Some h) → m < n
    above other at = above_in (nat_lt m n) refl where
      above_in : (b : Bool) → nat_lt m n ≡ b → m < n
      above_in true t = grind (arith, nat_tests)
      above_in false t = let low' : n ≤ m = grind (arith, nat_tests) in
          let none' : slot_at es n ≡ None = slots-none es (m + 1) next n are.1 (omega arith) in absurd (let none : ⊥ = cc in none)

    in_ : (m ≡ n) ⊎ (m ≡ n → ⊥) → (slot_at es n ≡ Some (Some h) → all_beside part (set_value (is_at (nat_cmp n)) es (Some now)) ≡ insert_entry nat_cmp (all_beside part es) n x) →
        all_beside part (set_value (is_at (nat_cmp n)) ((m, Some g) ∷ es) (Some now)) ≡ insert_entry nat_cmp (all_beside part ((m, Some g) ∷ es)) n x
    in_ (inl same) rest = rw (at-same m n same) (ap (λ (o : Option X). first_beside m o (all_beside part es)) is ∙ here (part g) same)
    in_ (inr other) rest = let behind = found-behind es n m (Some g) (Some h) other found in
        rw (at-other m n other) (there (part g) (above other behind) (all_beside part (set_value (is_at (nat_cmp n)) es (Some now))) (rest behind))
  set-put h now is ((m, None) ∷ es) low are found = in_ (eq-or m n) (λ there. set-put h now is es (m + 1) are.1 there) where
    in_ : (m ≡ n) ⊎ (m ≡ n → ⊥) → (slot_at es n ≡ Some (Some h) → all_beside part (set_value (is_at (nat_cmp n)) es (Some now)) ≡ insert_entry nat_cmp (all_beside part es) n x) →
        all_beside part (set_value (is_at (nat_cmp n)) ((m, None) ∷ es) (Some now)) ≡ insert_entry nat_cmp (all_beside part es) n x
    in_ (inl same) rest = absurd (let one : None ≡ Some h = found-here es n m None (Some h) same found in let none : ⊥ = cc in none)
    in_ (inr other) rest = rw (at-other m n other) (rest (found-behind es n m None (Some h) other found))
