-- The slots of a table after a write to one of them.
use Rattle.std.proofs.Common.{◌≡◌, ℕ, ◌+◌, ◌<◌, ◌≤◌, Bool, true, false, cond, List, [], ◌∷◌, Option, Some, None, refl, sym, ap, ◌∙◌, inl, inr, ◌⊎◌, arith}
use Rattle.std.specs.Prelude.{◌==◌}
use Rattle.std.specs.List.{filter}
use Rattle.std.specs.Map.{set_value}
use Rattle.std.specs.Ordering.{nat_cmp}
use Rattle.std.specs.BTreeMap.{is_at}
use Rattle.eden_base.specs.First.{changed_where, without_where}
use Rattle.eden_base.proofs.NumberTests.{eq-true, eq-false, eq-or}
use Rattle.entry_table.proofs.SlotLemmas.{at-same, at-other}
use Rattle.entry_table.specs.Entries.{has_number}
use Rattle.entry_table.specs.Slots.{kept_from, slot_at, first_beside, all_beside, AreSlots}
use Rattle.entry_table.specs.Table.{kept_of, is_other}
use Rattle.entry_table.specs.declared.kept.Kept.{Kept}
use Rattle.entry_table.specs.declared.kept.Entry.{Entry}

-- the first slot, or one behind it
pub found-here : (es : List (ℕ × Option Entry)) (n m : ℕ) (o p : Option Entry) → m ≡ n → slot_at ((m, o) ∷ es) n ≡ Some p → o ≡ p
found-here es n m o p same found = let f : Some o ≡ Some p = ap (λ b. cond b (Some o) (slot_at es n)) (sym (at-same m n same)) ∙ found in cc

pub found-behind : (es : List (ℕ × Option Entry)) (n m : ℕ) (o p : Option Entry) → (m ≡ n → ⊥) → slot_at ((m, o) ∷ es) n ≡ Some p → slot_at es n ≡ Some p
found-behind es n m o p other found = ap (λ b. cond b (Some o) (slot_at es n)) (sym (at-other m n other)) ∙ found

-- numbers are as they were, whatever is written
pub set-slots : (next n : ℕ) (w : Option Entry) (es : List (ℕ × Option Entry)) (low : ℕ) → AreSlots low next es → AreSlots low next (set_value (is_at (nat_cmp n)) es w)
set-slots next n w [] low are = are
set-slots next n w ((m, o) ∷ es) low are = in_ (is_at (nat_cmp n) m) (set-slots next n w es (m + 1) are.1) where
  in_ : (b : Bool) → AreSlots (m + 1) next (set_value (is_at (nat_cmp n)) es w) → AreSlots low next (cond b ((m, w) ∷ es) ((m, o) ∷ set_value (is_at (nat_cmp n)) es w))
  in_ true rest = are
  in_ false rest = (are.0, rest)

module _ (next : ℕ) (n : ℕ) (h now : Entry) where
  abbrev pub set : List (ℕ × Option Entry) → List (ℕ × Option Entry)
  set es = set_value (is_at (nat_cmp n)) es (Some now)

  pub set-kept : (es : List (ℕ × Option Entry)) (low : ℕ) (change : Kept → Kept) → change (kept_of n h) ≡ kept_of n now → AreSlots low next es → slot_at es n ≡ Some (Some h) →
      kept_from (set es) ≡ changed_where (has_number n) change (kept_from es)
  set-kept [] low change is are found = absurd (let none : ⊥ = cc in none)
  set-kept ((m, Some g) ∷ es) low change is are found = in_ (eq-or m n) (λ there. set-kept es (m + 1) change is are.1 there) where
    in_ : (m ≡ n) ⊎ (m ≡ n → ⊥) → (slot_at es n ≡ Some (Some h) → kept_from (set es) ≡ changed_where (has_number n) change (kept_from es)) → kept_from (set ((m, Some g) ∷ es)) ≡ changed_where (has_number n) change (kept_from ((m, Some g) ∷ es))
    in_ (inl same) rest =
        let t : (m == n) ≡ true = eq-true m n same in
        let one : Some g ≡ Some h = found-here es n m (Some g) (Some h) same found in
        let it : g ≡ h = cc in
        let now_is : kept_of m now ≡ change (kept_of m g) =
        ap (λ (k : ℕ). kept_of k now) same ∙ sym is ∙ ap (λ (x : Entry). change (kept_of n x)) (sym it) ∙ ap (λ (k : ℕ). change (kept_of k g)) (sym same) in
        rw (at-same m n same, t) (ap (λ (x : Kept). x ∷ kept_from es) now_is)
    in_ (inr other) rest =
        let t : (m == n) ≡ false = eq-false m n other in
        rw (at-other m n other, t) (ap (λ (xs : List Kept). kept_of m g ∷ xs) (rest (found-behind es n m (Some g) (Some h) other found)))
  set-kept ((m, None) ∷ es) low change is are found = in_ (eq-or m n) (λ there. set-kept es (m + 1) change is are.1 there) where
    in_ : (m ≡ n) ⊎ (m ≡ n → ⊥) → (slot_at es n ≡ Some (Some h) → kept_from (set es) ≡ changed_where (has_number n) change (kept_from es)) → kept_from (set ((m, None) ∷ es)) ≡ changed_where (has_number n) change (kept_from es)
    in_ (inl same) rest = absurd (let one : None ≡ Some h = found-here es n m None (Some h) same found in let none : ⊥ = cc in none)
    in_ (inr other) rest = rw (at-other m n other) (rest (found-behind es n m None (Some h) other found))

  module _ {X : Type 0} (part : Entry → Option X) where
    pub set-beside : (es : List (ℕ × Option Entry)) (low : ℕ) → part now ≡ part h → AreSlots low next es → slot_at es n ≡ Some (Some h) → all_beside part (set es) ≡ all_beside part es
    set-beside [] low is are found = absurd (let none : ⊥ = cc in none)
    set-beside ((m, Some g) ∷ es) low is are found = in_ (eq-or m n) (λ there. set-beside es (m + 1) is are.1 there) where
      in_ : (m ≡ n) ⊎ (m ≡ n → ⊥) → (slot_at es n ≡ Some (Some h) → all_beside part (set es) ≡ all_beside part es) → all_beside part (set ((m, Some g) ∷ es)) ≡ all_beside part ((m, Some g) ∷ es)
      in_ (inl same) rest =
          let one : Some g ≡ Some h = found-here es n m (Some g) (Some h) same found in
          let it : g ≡ h = cc in
          rw (at-same m n same) (ap (λ (o : Option X). first_beside m o (all_beside part es)) (is ∙ ap (λ (x : Entry). part x) (sym it)))
      in_ (inr other) rest = rw (at-other m n other) (ap (first_beside m (part g)) (rest (found-behind es n m (Some g) (Some h) other found)))
    set-beside ((m, None) ∷ es) low is are found = in_ (eq-or m n) (λ there. set-beside es (m + 1) is are.1 there) where
      in_ : (m ≡ n) ⊎ (m ≡ n → ⊥) → (slot_at es n ≡ Some (Some h) → all_beside part (set es) ≡ all_beside part es) → all_beside part (set ((m, None) ∷ es)) ≡ all_beside part es
      in_ (inl same) rest = absurd (let one : None ≡ Some h = found-here es n m None (Some h) same found in let none : ⊥ = cc in none)
      in_ (inr other) rest = rw (at-other m n other) (rest (found-behind es n m None (Some h) other found))

-- an entry leaves its slot
module _ (next : ℕ) (n : ℕ) (h : Entry) where
  abbrev pub emptied : List (ℕ × Option Entry) → List (ℕ × Option Entry)
  emptied es = set_value (is_at (nat_cmp n)) es None

  pub emptied-kept : (es : List (ℕ × Option Entry)) (low : ℕ) → AreSlots low next es → slot_at es n ≡ Some (Some h) → kept_from (emptied es) ≡ without_where (has_number n) (kept_from es)
  emptied-kept [] low are found = absurd (let none : ⊥ = cc in none)
  emptied-kept ((m, Some g) ∷ es) low are found = in_ (eq-or m n) (λ there. emptied-kept es (m + 1) are.1 there) where
    in_ : (m ≡ n) ⊎ (m ≡ n → ⊥) → (slot_at es n ≡ Some (Some h) → kept_from (emptied es) ≡ without_where (has_number n) (kept_from es)) → kept_from (emptied ((m, Some g) ∷ es)) ≡ without_where (has_number n) (kept_from ((m, Some g) ∷ es))
    in_ (inl same) rest = let t : (m == n) ≡ true = eq-true m n same in rw (at-same m n same, t) refl
    in_ (inr other) rest =
        let t : (m == n) ≡ false = eq-false m n other in
        rw (at-other m n other, t) (ap (λ (xs : List Kept). kept_of m g ∷ xs) (rest (found-behind es n m (Some g) (Some h) other found)))
  emptied-kept ((m, None) ∷ es) low are found = in_ (eq-or m n) (λ there. emptied-kept es (m + 1) are.1 there) where
    in_ : (m ≡ n) ⊎ (m ≡ n → ⊥) → (slot_at es n ≡ Some (Some h) → kept_from (emptied es) ≡ without_where (has_number n) (kept_from es)) → kept_from (emptied ((m, None) ∷ es)) ≡ without_where (has_number n) (kept_from es)
    in_ (inl same) rest = absurd (let one : None ≡ Some h = found-here es n m None (Some h) same found in let none : ⊥ = cc in none)
    in_ (inr other) rest = rw (at-other m n other) (rest (found-behind es n m None (Some h) other found))

-- what an entry had beside it leaves, with the entry or without it
module _ {X : Type 0} (part : Entry → Option X) (next : ℕ) (n : ℕ) (h : Entry) (left : Option Entry) (none : (m : ℕ) (es : List (ℕ × Option Entry)) → all_beside part ((m, left) ∷ es) ≡ all_beside part es) where
  abbrev of_others : List (ℕ × X) → List (ℕ × X)
  of_others xs = filter (λ (x : ℕ × X). is_other n x.0) xs

  abbrev lost : List (ℕ × Option Entry) → List (ℕ × Option Entry)
  lost es = set_value (is_at (nat_cmp n)) es left

  -- behind a number all is of others
  others : (es : List (ℕ × Option Entry)) (low : ℕ) → AreSlots low next es → n < low → all_beside part es ≡ of_others (all_beside part es)
  others [] low are less = refl
  others ((m, Some g) ∷ es) low are less = in_ (part g) (let a : low ≤ m = are.0 in others es (m + 1) are.1 (omega arith)) where
    in_ : (o : Option X) → all_beside part es ≡ of_others (all_beside part es) → first_beside m o (all_beside part es) ≡ of_others (first_beside m o (all_beside part es))
    in_ None rest = rest
    in_ (Some x) rest = let a : low ≤ m = are.0 in let t : (m == n) ≡ false = eq-false m n (λ e. omega arith) in rw t (ap (λ (xs : List (ℕ × X)). (m, x) ∷ xs) rest)
  others ((m, None) ∷ es) low are less = let a : low ≤ m = are.0 in others es (m + 1) are.1 (omega arith)

  pub lost-beside : (es : List (ℕ × Option Entry)) (low : ℕ) → AreSlots low next es → slot_at es n ≡ Some (Some h) → all_beside part (lost es) ≡ of_others (all_beside part es)
  lost-beside [] low are found = absurd (let no : ⊥ = cc in no)
  lost-beside ((m, Some g) ∷ es) low are found = in_ (eq-or m n) (λ there. lost-beside es (m + 1) are.1 there) where
    here : (o : Option X) → (m == n) ≡ true → m ≡ n → all_beside part es ≡ of_others (first_beside m o (all_beside part es))
    here None t e = others es (m + 1) are.1 (omega arith)
    here (Some x) t e = rw t (others es (m + 1) are.1 (omega arith))

    there : (o : Option X) → (m == n) ≡ false → (xs : List (ℕ × X)) → xs ≡ of_others (all_beside part es) → first_beside m o xs ≡ of_others (first_beside m o (all_beside part es))
    there None t xs e = e
    there (Some x) t xs e = rw t (ap (λ (ys : List (ℕ × X)). (m, x) ∷ ys) e)

    in_ : (m ≡ n) ⊎ (m ≡ n → ⊥) → (slot_at es n ≡ Some (Some h) → all_beside part (lost es) ≡ of_others (all_beside part es)) → all_beside part (lost ((m, Some g) ∷ es)) ≡ of_others (all_beside part ((m, Some g) ∷ es))
    in_ (inl same) rest = rw (at-same m n same) (none m es ∙ here (part g) (eq-true m n same) same)
    in_ (inr other) rest = rw (at-other m n other) (there (part g) (eq-false m n other) (all_beside part (lost es)) (rest (found-behind es n m (Some g) (Some h) other found)))
  lost-beside ((m, None) ∷ es) low are found = in_ (eq-or m n) (λ there. lost-beside es (m + 1) are.1 there) where
    in_ : (m ≡ n) ⊎ (m ≡ n → ⊥) → (slot_at es n ≡ Some (Some h) → all_beside part (lost es) ≡ of_others (all_beside part es)) → all_beside part (lost ((m, None) ∷ es)) ≡ of_others (all_beside part es)
    in_ (inl same) rest = absurd (let one : None ≡ Some h = found-here es n m None (Some h) same found in let no : ⊥ = cc in no)
    in_ (inr other) rest = rw (at-other m n other) (rest (found-behind es n m None (Some h) other found))

module _ {X : Type 0} (part : Entry → Option X) (next n : ℕ) (h : Entry) (es : List (ℕ × Option Entry)) (low : ℕ) (are : AreSlots low next es) (found : slot_at es n ≡ Some (Some h)) where
  -- with the entry
  pub emptied-beside : all_beside part (emptied next n h es) ≡ filter (λ (x : ℕ × X). is_other n x.0) (all_beside part es)
  emptied-beside = lost-beside part next n h None (λ m rest. refl) es low are found

  -- without it
  pub cleared-beside : (now : Entry) → part now ≡ None → all_beside part (set next n h now es) ≡ filter (λ (x : ℕ × X). is_other n x.0) (all_beside part es)
  cleared-beside now none = lost-beside part next n h (Some now) (λ m rest. ap (λ (o : Option X). first_beside m o (all_beside part rest)) none) es low are found
