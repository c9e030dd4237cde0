-- The slots of the map of entries, read as entries.
use Rattle.std.proofs.Common.{◌≡◌, ℕ, ◌+◌, ◌<◌, ◌≤◌, Bool, true, false, cond, List, [], ◌∷◌, ◌++◌, length, drop, get_or, Option, Some, None, IsSome, is_some, refl, sym, ap, ◌∙◌, inl, inr, ◌⊎◌, arith}
use Rattle.std.specs.Prelude.{◌==◌}
use Rattle.std.specs.Option.{option_map, option_and_then}
use Rattle.std.specs.Map.{lookup}
use Rattle.std.specs.Ordering.{nat_cmp}
use Rattle.std.specs.Cmp.{unsigned_ties}
use Rattle.std.specs.BTreeMap.{is_at}
use Rattle.std.proofs.lemmas.List.{drop_more}
use Rattle.eden_base.specs.declared.number.FileId.{FileId}
use Rattle.eden_base.proofs.FirstLemmas.{Each-kept}
use Rattle.eden_base.proofs.NumberTests.{eq-true, eq-false, eq-or}
use Rattle.entry_table.specs.Entries.{entry_of, is_kept, AreNumbers}
use Rattle.entry_table.specs.Slots.{kept_from, slot_at, first_beside, all_beside, files_from, AreSlots}
use Rattle.entry_table.specs.Table.{kept_of, AreOfKept, file_number}
use Rattle.entry_table.specs.declared.kept.Kept.{Kept}
use Rattle.entry_table.specs.declared.kept.Entry.{Entry}

-- a number is at itself alone
pub at-same : (m n : ℕ) → m ≡ n → is_at (nat_cmp n) m ≡ true
at-same m n e = sym (unsigned_ties n m) ∙ eq-true n m (sym e)

pub at-other : (m n : ℕ) → (m ≡ n → ⊥) → is_at (nat_cmp n) m ≡ false
at-other m n d = sym (unsigned_ties n m) ∙ eq-false n m (λ e. d (sym e))

-- what stands in a slot
abbrev pub slot_held : Option (Option Entry) → Option Entry
slot_held o = option_and_then (λ (s : Option Entry). s) o

pub slots-lower : (es : List (ℕ × Option Entry)) (low high next : ℕ) → low ≤ high → AreSlots high next es → AreSlots low next es
slots-lower [] low high next le are = let a : high ≤ next = are in omega arith
slots-lower ((m, o) ∷ es) low high next le are = let a : high ≤ m = are.0 in (omega arith, are.1)

-- behind the first slot they begin no lower
pub slots-behind : (es : List (ℕ × Option Entry)) (o : Option Entry) (low m next : ℕ) → AreSlots low next ((m, o) ∷ es) → AreSlots low next es
slots-behind es o low m next are = let a : low ≤ m = are.0 in slots-lower es low (m + 1) next (omega arith) are.1

-- their numbers rise
pub slots-numbers : (es : List (ℕ × Option Entry)) (low next : ℕ) → AreSlots low next es → AreNumbers low next (kept_from es)
slots-numbers [] low next are = are
slots-numbers ((m, Some h) ∷ es) low next are = (are.0, slots-numbers es (m + 1) next are.1)
slots-numbers ((m, None) ∷ es) low next are = slots-numbers es low next (slots-behind es None low m next are)

-- no number below the lowest is found
pub slots-none : (es : List (ℕ × Option Entry)) (low next : ℕ) (n : ℕ) → AreSlots low next es → n < low → slot_at es n ≡ None
slots-none [] low next n are less = refl
slots-none ((m, o) ∷ es) low next n are less = let a : low ≤ m = are.0 in rw (at-other m n (λ e. omega arith)) (slots-none es (m + 1) next n are.1 (omega arith))

pub entries-none : (es : List (ℕ × Option Entry)) (low next : ℕ) (n : ℕ) → AreSlots low next es → n < low → entry_of (kept_from es) n ≡ None
entries-none [] low next n are less = refl
entries-none ((m, Some h) ∷ es) low next n are less =
    let a : low ≤ m = are.0 in let t : (m == n) ≡ false = eq-false m n (λ e. omega arith) in rw t (entries-none es (m + 1) next n are.1 (omega arith))
entries-none ((m, None) ∷ es) low next n are less = let a : low ≤ m = are.0 in entries-none es (m + 1) next n are.1 (omega arith)

-- what is found under a number is its entry
pub held-entry : (es : List (ℕ × Option Entry)) (low next : ℕ) (n : ℕ) → AreSlots low next es → option_map (kept_of n) (slot_held (slot_at es n)) ≡ entry_of (kept_from es) n
held-entry [] low next n are = refl
held-entry ((m, Some h) ∷ es) low next n are = in_ (eq-or m n) (held-entry es (m + 1) next n are.1) where
  in_ : (m ≡ n) ⊎ (m ≡ n → ⊥) → option_map (kept_of n) (slot_held (slot_at es n)) ≡ entry_of (kept_from es) n → option_map (kept_of n) (slot_held (slot_at ((m, Some h) ∷ es) n)) ≡ entry_of (kept_from ((m, Some h) ∷ es)) n
  in_ (inl same) rest = let t : (m == n) ≡ true = eq-true m n same in rw (at-same m n same, t) (ap (λ (k : ℕ). Some (kept_of k h)) (sym same))
  in_ (inr other) rest = let t : (m == n) ≡ false = eq-false m n other in rw (at-other m n other, t) rest
held-entry ((m, None) ∷ es) low next n are = in_ (eq-or m n) (held-entry es (m + 1) next n are.1) where
  in_ : (m ≡ n) ⊎ (m ≡ n → ⊥) → option_map (kept_of n) (slot_held (slot_at es n)) ≡ entry_of (kept_from es) n → option_map (kept_of n) (slot_held (slot_at ((m, None) ∷ es) n)) ≡ entry_of (kept_from es) n
  in_ (inl same) rest = rw (at-same m n same) (sym (entries-none es (m + 1) next n are.1 (omega arith)))
  in_ (inr other) rest = rw (at-other m n other) rest

-- an entry is found in a slot
pub entry-held : (es : List (ℕ × Option Entry)) (low next : ℕ) (n : ℕ) (kept : Kept) → AreSlots low next es → entry_of (kept_from es) n ≡ Some kept → (h : Entry) × (slot_at es n ≡ Some (Some h)) × (kept ≡ kept_of n h)
entry-held es low next n kept are e = in_ (slot_at es n) refl (held-entry es low next n are ∙ e) where
  in_ : (o : Option (Option Entry)) → slot_at es n ≡ o → option_map (kept_of n) (slot_held o) ≡ Some kept → (h : Entry) × (slot_at es n ≡ Some (Some h)) × (kept ≡ kept_of n h)
  in_ None s f = absurd (let none : ⊥ = cc in none)
  in_ (Some None) s f = absurd (let none : ⊥ = cc in none)
  in_ (Some (Some h)) s f = (h, s, let g : kept_of n h ≡ kept = cc in sym g)

pub some-held : (es : List (ℕ × Option Entry)) (low next : ℕ) (n : ℕ) → AreSlots low next es → IsSome (entry_of (kept_from es) n) → (h : Entry) × (slot_at es n ≡ Some (Some h))
some-held es low next n are some = in_ (entry_of (kept_from es) n) refl some where
  in_ : (o : Option Kept) → entry_of (kept_from es) n ≡ o → IsSome o → (h : Entry) × (slot_at es n ≡ Some (Some h))
  in_ None e s = absurd (let none : ⊥ = cc in none)
  in_ (Some kept) e s = let w = entry-held es low next n kept are e in (w.0, w.1)

-- the number is this
abbrev pub is_number : ℕ → ℕ → Bool
is_number n m = m == n

-- what an entry has beside it
module _ {X : Type 0} (part : Entry → Option X) where
  pub beside-low : (es : List (ℕ × Option Entry)) (low next : ℕ) (n : ℕ) → AreSlots low next es → n < low → lookup (is_number n) (all_beside part es) ≡ None
  beside-low [] low next n are less = refl
  beside-low ((m, Some h) ∷ es) low next n are less = in_ (part h) (let a : low ≤ m = are.0 in beside-low es (m + 1) next n are.1 (omega arith)) where
    in_ : (o : Option X) → lookup (is_number n) (all_beside part es) ≡ None → lookup (is_number n) (first_beside m o (all_beside part es)) ≡ None
    in_ None rest = rest
    in_ (Some x) rest = let a : low ≤ m = are.0 in let t : (m == n) ≡ false = eq-false m n (λ e. omega arith) in rw t rest
  beside-low ((m, None) ∷ es) low next n are less = let a : low ≤ m = are.0 in beside-low es (m + 1) next n are.1 (omega arith)

  pub held-beside : (es : List (ℕ × Option Entry)) (low next : ℕ) (n : ℕ) → AreSlots low next es → option_and_then part (slot_held (slot_at es n)) ≡ lookup (is_number n) (all_beside part es)
  held-beside [] low next n are = refl
  held-beside ((m, Some h) ∷ es) low next n are = in_ (eq-or m n) (held-beside es (m + 1) next n are.1) where
    here : (o : Option X) → (m == n) ≡ true → m ≡ n → o ≡ lookup (is_number n) (first_beside m o (all_beside part es))
    here None t e = sym (beside-low es (m + 1) next n are.1 (omega arith))
    here (Some x) t e = rw t refl

    there : (o : Option X) → (m == n) ≡ false → lookup (is_number n) (all_beside part es) ≡ lookup (is_number n) (first_beside m o (all_beside part es))
    there None t = refl
    there (Some x) t = rw t refl

    in_ : (m ≡ n) ⊎ (m ≡ n → ⊥) → option_and_then part (slot_held (slot_at es n)) ≡ lookup (is_number n) (all_beside part es) →
        option_and_then part (slot_held (slot_at ((m, Some h) ∷ es) n)) ≡ lookup (is_number n) (all_beside part ((m, Some h) ∷ es))
    in_ (inl same) rest = rw (at-same m n same) (here (part h) (eq-true m n same) same)
    in_ (inr other) rest = rw (at-other m n other) (rest ∙ there (part h) (eq-false m n other))
  held-beside ((m, None) ∷ es) low next n are = in_ (eq-or m n) (held-beside es (m + 1) next n are.1) where
    in_ : (m ≡ n) ⊎ (m ≡ n → ⊥) → option_and_then part (slot_held (slot_at es n)) ≡ lookup (is_number n) (all_beside part es) →
        option_and_then part (slot_held (slot_at ((m, None) ∷ es) n)) ≡ lookup (is_number n) (all_beside part es)
    in_ (inl same) rest = rw (at-same m n same) (sym (beside-low es (m + 1) next n are.1 (omega arith)))
    in_ (inr other) rest = rw (at-other m n other) rest

-- a remembered file is of an entry
kept-behind : (x : Kept) (es : List Kept) (n : ℕ) → is_kept es n ≡ true → is_kept (x ∷ es) n ≡ true
kept-behind x es n t = in_ (x.number.0 == n) where
  in_ : (b : Bool) → is_some (cond b (Some x) (entry_of es n)) ≡ true
  in_ true = refl
  in_ false = t

pub files-kept : (es : List (ℕ × Option Entry)) → AreOfKept file_number (kept_from es) (files_from es)
files-kept [] = tt
files-kept ((m, Some h) ∷ es) = in_ h.file (Each-kept (λ (f : ℕ × FileId). is_kept (kept_from es) f.0 ≡ true) (λ (f : ℕ × FileId). is_kept (kept_of m h ∷ kept_from es) f.0 ≡ true)
    (files_from es) (files-kept es) (λ f t. kept-behind (kept_of m h) (kept_from es) f.0 t)) where
      in_ : (o : Option FileId) → AreOfKept file_number (kept_of m h ∷ kept_from es) (files_from es) → AreOfKept file_number (kept_of m h ∷ kept_from es) (first_beside m o (files_from es))
      in_ None rest = rest
      in_ (Some f) rest = ((let t : (m == m) ≡ true = eq-true m m refl in rw t refl), rest)
files-kept ((m, None) ∷ es) = files-kept es

-- there are no more entries than slots
pub kept-len : (es : List (ℕ × Option Entry)) → length (kept_from es) ≤ length es
kept-len [] = omega arith
kept-len ((m, Some h) ∷ es) = let r = kept-len es in omega arith
kept-len ((m, None) ∷ es) = let r = kept-len es in omega arith

-- the entry of a slot stands in front of those of the slots behind it
pub kept-front : (slot : ℕ × Option Entry) (h : Entry) (rest : List (ℕ × Option Entry)) → slot.1 ≡ Some h → kept_from (slot ∷ rest) ≡ kept_of slot.0 h ∷ kept_from rest
kept-front (n, Some k) h rest is = let same : k ≡ h = cc in ap (λ (x : Entry). kept_of n x ∷ kept_from rest) same
kept-front (n, None) h rest is = absurd (let no : ⊥ = cc in no)

-- and an empty slot has none
pub kept-past : (slot : ℕ × Option Entry) (rest : List (ℕ × Option Entry)) → slot.1 ≡ None → kept_from (slot ∷ rest) ≡ kept_from rest
kept-past (n, Some k) rest is = absurd (let no : ⊥ = cc in no)
kept-past (n, None) rest is = refl

-- entries of slots behind others stand behind theirs
pub kept-append : (es fs : List (ℕ × Option Entry)) → kept_from (es ++ fs) ≡ kept_from es ++ kept_from fs
kept-append [] fs = refl
kept-append ((m, Some h) ∷ es) fs = ap (λ (xs : List Kept). kept_of m h ∷ xs) (kept-append es fs)
kept-append ((m, None) ∷ es) fs = kept-append es fs

-- so it is where slots are read one by one
module _ (slots : List (ℕ × Option Entry)) (i : ℕ) (slot : ℕ × Option Entry) (within : i < length slots) (is : slot ≡ get_or slots i slot) where
  front : drop i slots ≡ slot ∷ drop (i + 1) slots
  front = drop_more slots i slot within ∙ ap (λ (s : ℕ × Option Entry). s ∷ drop (i + 1) slots) (sym is)

  pub next-kept : (h : Entry) → slot.1 ≡ Some h → kept_from (drop i slots) ≡ kept_of slot.0 h ∷ kept_from (drop (i + 1) slots)
  next-kept h some = ap kept_from front ∙ kept-front slot h (drop (i + 1) slots) some

  pub next-empty : slot.1 ≡ None → kept_from (drop i slots) ≡ kept_from (drop (i + 1) slots)
  next-empty none = ap kept_from front ∙ kept-past slot (drop (i + 1) slots) none
