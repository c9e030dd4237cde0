-- Where the slot of a number stands, and which entry is the first behind it.
use Rattle.std.proofs.Common.{◌≡◌, ℕ, zero, suc, ◌+◌, ◌<◌, ◌≤◌, Bool, true, false, List, [], ◌∷◌, length, drop, get_or, ◌-◌, Option, Some, None, is_some, refl, sym, ap, ◌∙◌, inl, inr, ◌⊎◌, arith}
use Rattle.std.specs.Prelude.{nat_lt, slice_set}
use Rattle.std.specs.List.Sorted.{IsPartitionPoint}
use Rattle.std.specs.Map.{set_value}
use Rattle.std.specs.Ordering.{nat_cmp}
use Rattle.std.specs.BTreeMap.{is_at}
use Rattle.std.proofs.lemmas.Bool.Decides.{nat_tests}
use Rattle.eden_base.proofs.NumberTests.{eq-or}
use Rattle.entry_table.proofs.SlotLemmas.{at-same, at-other}
use Rattle.entry_table.specs.Entries.{number_after}
use Rattle.entry_table.specs.Slots.{kept_from, slot_at, first_number, AreSlots, IsIndexOf}
use Rattle.entry_table.specs.declared.kept.Entry.{Entry}

-- each slot's number is at least as far above the lowest as the slot is behind the first
pub slots-from : (es : List (ℕ × Option Entry)) (low next k : ℕ) (d : ℕ × Option Entry) → AreSlots low next es → k < length es → low + k ≤ (get_or es k d).0
slots-from [] low next k d are less = absurd (omega arith)
slots-from (s ∷ es) low next zero d are less = let a : low ≤ s.0 = are.0 in omega arith
slots-from (s ∷ es) low next (suc k) d are less = let a : low ≤ s.0 = are.0 in let b : s.0 + 1 + k ≤ (get_or es k d).0 = slots-from es (s.0 + 1) next k d are.1 (omega arith) in omega arith

-- of two slots the numbers lie at least as far apart as they do
pub slots-apart : (es : List (ℕ × Option Entry)) (low next i j : ℕ) (d : ℕ × Option Entry) → AreSlots low next es → i ≤ j → j < length es → (get_or es i d).0 + (j - i) ≤ (get_or es j d).0
slots-apart [] low next i j d are le short = absurd (omega arith)
slots-apart (s ∷ es) low next zero zero d are le short = omega arith
slots-apart (s ∷ es) low next (suc i) zero d are le short = absurd (omega arith)
slots-apart (s ∷ es) low next zero (suc j) d are le short = let b : s.0 + 1 + j ≤ (get_or es j d).0 = slots-from es (s.0 + 1) next j d are.1 (omega arith) in omega arith
slots-apart (s ∷ es) low next (suc i) (suc j) d are le short = let b : (get_or es i d).0 + (j - i) ≤ (get_or es j d).0 = slots-apart es (s.0 + 1) next i j d are.1 (omega arith) (omega arith) in omega arith

-- a number that no slot has isn't found
pub none-there : (es : List (ℕ × Option Entry)) (n : ℕ) → ((k : ℕ) (d : ℕ × Option Entry) → k < length es → (get_or es k d).0 ≡ n → ⊥) → slot_at es n ≡ None
none-there [] n never = refl
none-there ((m, o) ∷ es) n never = rw (at-other m n (never zero (m, o) (omega arith))) (none-there es n (λ k d less. never (suc k) d (omega arith)))

-- what stands at a index
any-default : (es : List (ℕ × Option Entry)) (k : ℕ) (d e : ℕ × Option Entry) → k < length es → get_or es k d ≡ get_or es k e
any-default [] k d e less = absurd (omega arith)
any-default (s ∷ es) zero d e less = refl
any-default (s ∷ es) (suc k) d e less = any-default es k d e (omega arith)

-- where no slot up to a number has it, none does
pub none-up_to : (es : List (ℕ × Option Entry)) (next n index : ℕ) → AreSlots 2 next es → index ≤ length es →
    IsPartitionPoint (λ (slot : ℕ × Option Entry). slot.0 ≤ n) (λ (slot : ℕ × Option Entry). n < slot.0) es index →
    (e : ℕ × Option Entry) → ((last : ℕ) → index ≡ last + 1 → (get_or es last e).0 ≡ n → ⊥) → slot_at es n ≡ None
none-up_to es next n index are bound parted e never = none-there es n (λ k d less here. in_ k d less here (lt_or k)) where
  lt_or : (k : ℕ) → (k < index) ⊎ (index ≤ k)
  lt_or k = lt_in (nat_lt k index) refl where
    lt_in : (b : Bool) → nat_lt k index ≡ b → (k < index) ⊎ (index ≤ k)
    lt_in true t = inl (grind (arith, nat_tests))
    lt_in false t = inr (grind (arith, nat_tests))

  in_ : (k : ℕ) (d : ℕ × Option Entry) → k < length es → (get_or es k d).0 ≡ n → (k < index) ⊎ (index ≤ k) → ⊥
  in_ k d less here (inr behind) = let high : n < (get_or es k d).0 = parted.1 k d behind less in omega arith
  in_ k d less here (inl before) = last_in (eq-or (k + 1) index) where
    last_in : (k + 1 ≡ index) ⊎ (k + 1 ≡ index → ⊥) → ⊥
    last_in (inl same) = never k (sym same) (ap (λ (s : ℕ × Option Entry). s.0) (any-default es k e d less) ∙ here)
    last_in (inr other) =
        let rise : (get_or es k d).0 + (k + 1 - k) ≤ (get_or es (k + 1) d).0 = slots-apart es 2 next k (k + 1) d are (omega arith) (omega arith) in
        let low : (get_or es (k + 1) d).0 ≤ n = parted.0 (k + 1) d (omega arith) (omega arith) in omega arith

-- a slot that stands at a index is found, and what is written at the index is written under the number
pub index-found : (es : List (ℕ × Option Entry)) (low next n index : ℕ) (d : ℕ × Option Entry) → AreSlots low next es → IsIndexOf es n index → slot_at es n ≡ Some (get_or es index d).1
index-found [] low next n index d are at = absurd (let a : index < 0 = at.0 in omega arith)
index-found ((m, o) ∷ es) low next n zero d are at = rw (at-same m n (at.1 d)) refl
index-found ((m, o) ∷ es) low next n (suc index) d are at =
    let short : index < length es = let a : suc index < length ((m, o) ∷ es) = at.0 in omega arith in
    let above : m + 1 + index ≤ (get_or es index d).0 = slots-from es (m + 1) next index d are.1 short in
    let here : (get_or es index d).0 ≡ n = at.1 d in
    rw (at-other m n (λ e. omega arith)) (index-found es (m + 1) next n index d are.1 (short, λ x. at.1 x))

pub index-set : (es : List (ℕ × Option Entry)) (low next n index : ℕ) (w : Option Entry) → AreSlots low next es → IsIndexOf es n index → slice_set es index (n, w) ≡ set_value (is_at (nat_cmp n)) es w
index-set [] low next n index w are at = absurd (let a : index < 0 = at.0 in omega arith)
index-set ((m, o) ∷ es) low next n zero w are at = let same : m ≡ n = at.1 (m, o) in rw (at-same m n same) (ap (λ (k : ℕ). (k, w) ∷ es) (sym same))
index-set ((m, o) ∷ es) low next n (suc index) w are at =
    let short : index < length es = let a : suc index < length ((m, o) ∷ es) = at.0 in omega arith in
    let above : m + 1 + index ≤ (get_or es index (m, o)).0 = slots-from es (m + 1) next index (m, o) are.1 short in
    let here : (get_or es index (m, o)).0 ≡ n = at.1 (m, o) in
    rw (at-other m n (λ e. omega arith)) (ap (λ (xs : List (ℕ × Option Entry)). (m, o) ∷ xs) (index-set es (m + 1) next n index w are.1 (short, λ x. at.1 x)))

-- behind the slots up to a number the first entry is the one after it
pub first-after : (es : List (ℕ × Option Entry)) (n index : ℕ) → IsPartitionPoint (λ (slot : ℕ × Option Entry). slot.0 ≤ n) (λ (slot : ℕ × Option Entry). n < slot.0) es index →
    first_number (kept_from (drop index es)) ≡ number_after (kept_from es) n
first-after [] n zero parted = refl
first-after [] n (suc index) parted = refl
first-after ((m, Some h) ∷ es) n zero parted = let high : n < m = parted.1 zero (m, Some h) (omega arith) (omega arith) in let t : nat_lt n m ≡ true = grind (arith, nat_tests) in rw t refl
first-after ((m, None) ∷ es) n zero parted = first-after es n zero (λ k d a b. absurd (omega arith), λ k d a b. parted.1 (suc k) d (omega arith) (omega arith))
first-after ((m, o) ∷ es) n (suc index) parted = in_ o (first-after es n index (λ k d a b. parted.0 (suc k) d (omega arith) (omega arith), λ k d a b. parted.1 (suc k) d (omega arith) (omega arith))) where
  low_is : m ≤ n
  low_is = parted.0 zero (m, o) (omega arith) (omega arith)

  in_ : (p : Option Entry) → first_number (kept_from (drop index es)) ≡ number_after (kept_from es) n → first_number (kept_from (drop index es)) ≡ number_after (kept_from ((m, p) ∷ es)) n
  in_ (Some h) rest = let t : nat_lt n m ≡ false = let l = low_is in grind (arith, nat_tests) in rw t rest
  in_ None rest = rest

-- the first slot has the first entry, unless it is empty
pub first-full : (s : ℕ × Option Entry) (es : List (ℕ × Option Entry)) → is_some s.1 ≡ true → first_number (kept_from (s ∷ es)) ≡ Some (record { 0 = s.0 })
first-full (m, Some h) es full = refl
first-full (m, None) es full = absurd (let none : ⊥ = cc in none)

pub first-empty : (s : ℕ × Option Entry) (es : List (ℕ × Option Entry)) → is_some s.1 ≡ false → kept_from (s ∷ es) ≡ kept_from es
first-empty (m, Some h) es empty = absurd (let none : ⊥ = cc in none)
first-empty (m, None) es empty = refl
