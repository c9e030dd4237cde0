-- What a number's entry is after a change, a removal, an addition; and entries whose numbers rise.
use Rattle.std.proofs.Common.{◌≡◌, ℕ, zero, suc, ◌+◌, ◌<◌, ◌≤◌, Bool, true, false, cond, List, [], ◌∷◌, ◌++◌, length, Option, Some, None, is_some, refl, sym, ap, ◌∙◌, subst, inl, inr, ◌⊎◌, arith}
use Rattle.std.specs.Prelude.{◌==◌, if◌then◌else◌, slice_index_or}
use Rattle.std.specs.Option.{option_map}
use Rattle.eden_base.specs.declared.number.Number.{Number}
use Rattle.eden_base.specs.First.{first_where, changed_where, without_where}
use Rattle.eden_base.proofs.FirstLemmas.{first_where-append, first_where-changed_same, first_where-changed_other, first_where-without_other}
use Rattle.eden_base.proofs.NumberTests.{eq-true, eq-false, true-eq}
use Rattle.entry_table.specs.Entries.{has_number, entry_of, AreNumbers}
use Rattle.entry_table.specs.declared.kept.Kept.{Kept}

-- each number is greater than those before it
abbrev pub Rises : List Kept → Type 0
Rises entries =
    (i j : ℕ) (d : Kept) → i < j → j < length entries → (slice_index_or entries i d).number.0 < (slice_index_or entries j d).number.0

-- an entry has its number
pub entry_of-number : (es : List Kept) (n : ℕ) (x : Kept) → entry_of es n ≡ Some x → x.number.0 ≡ n
entry_of-number [] n x h = absurd (let none : ⊥ = cc in none)
entry_of-number (y ∷ es) n x h = number_in y es n x (y.number.0 == n) refl h (entry_of-number es n x) where
  number_in : (y : Kept) (es : List Kept) (n : ℕ) (x : Kept) (b : Bool) → (y.number.0 == n) ≡ b → cond b (Some y) (entry_of es n) ≡ Some x → (entry_of es n ≡ Some x → x.number.0 ≡ n) → x.number.0 ≡ n
  number_in y es n x true e h rest = let same : y ≡ x = cc in subst (λ (z : Kept). z.number.0 ≡ n) same (true-eq y.number.0 n e)
  number_in y es n x false e h rest = rest h

-- the entry that was changed, where the change keeps its number
pub changed-same : (es : List Kept) (n : ℕ) (change : Kept → Kept) → ((x : Kept) → (change x).number ≡ x.number) →
    entry_of (changed_where (has_number n) change es) n ≡ option_map change (entry_of es n)
changed-same es n change keeps = first_where-changed_same (has_number n) change es (λ x. ap (λ (k : Number). k.0 == n) (keeps x))

-- an entry has one number
apart : (n m : ℕ) → (m ≡ n → ⊥) → (x : Kept) → has_number n x ≡ true → has_number m x ≡ false
apart n m d x e = eq-false x.number.0 m (λ f. d (sym f ∙ true-eq x.number.0 n e))

-- each other entry stays
pub changed-other : (es : List Kept) (n m : ℕ) (change : Kept → Kept) → ((x : Kept) → (change x).number ≡ x.number) → (m ≡ n → ⊥) →
    entry_of (changed_where (has_number n) change es) m ≡ entry_of es m
changed-other es n m change keeps d = first_where-changed_other (has_number n) (has_number m) change es (λ x. ap (λ (k : Number). k.0 == m) (keeps x)) (apart n m d)

-- an entry that was taken out leaves each other one
pub without-other : (es : List Kept) (n m : ℕ) → (m ≡ n → ⊥) → entry_of (without_where (has_number n) es) m ≡ entry_of es m
without-other es n m d = first_where-without_other (has_number n) (has_number m) es (apart n m d)

-- numbers from a greater one on
numbers-higher : (es : List Kept) (low high next : ℕ) → low ≤ high → AreNumbers high next es → AreNumbers low next es
numbers-higher [] low high next le are = omega arith
numbers-higher (x ∷ es) low high next le are = (let h : high ≤ x.number.0 = are.0 in omega arith, are.1)

-- the numbers reach up to the next
pub numbers-bound : (es : List Kept) (low next : ℕ) → AreNumbers low next es → low ≤ next
numbers-bound [] low next are = are
numbers-bound (x ∷ es) low next are = let h : low ≤ x.number.0 = are.0 in let k : x.number.0 + 1 ≤ next = numbers-bound es (x.number.0 + 1) next are.1 in omega arith

-- a number of an entry lies among them
pub numbers-entry : (es : List Kept) (low next n : ℕ) (x : Kept) → AreNumbers low next es → entry_of es n ≡ Some x → (low ≤ n) × (n < next)
numbers-entry [] low next n x are h = absurd (let none : ⊥ = cc in none)
numbers-entry (y ∷ es) low next n x are h = entry_in y es low next n x are (y.number.0 == n) refl h (numbers-entry es (y.number.0 + 1) next n x are.1) where
  entry_in : (y : Kept) (es : List Kept) (low next n : ℕ) (x : Kept) → AreNumbers low next (y ∷ es) → (b : Bool) → (y.number.0 == n) ≡ b → cond b (Some y) (entry_of es n) ≡ Some x →
      (entry_of es n ≡ Some x → (y.number.0 + 1 ≤ n) × (n < next)) → (low ≤ n) × (n < next)
  entry_in y es low next n x are true e h rest =
      let same : y.number.0 ≡ n = true-eq y.number.0 n e in let a : low ≤ y.number.0 = are.0 in let b : y.number.0 + 1 ≤ next = numbers-bound es (y.number.0 + 1) next are.1 in (omega arith, omega arith)
  entry_in y es low next n x are false e h rest = let r = rest h in let a : low ≤ y.number.0 = are.0 in (omega (arith, r.0), r.1)

-- a number outside them has no entry
pub numbers-outside : (es : List Kept) (low next n : ℕ) → AreNumbers low next es → (n < low) ⊎ (next ≤ n) → entry_of es n ≡ None
numbers-outside es low next n are out = outside_in (entry_of es n) refl where
  outside_in : (o : Option Kept) → entry_of es n ≡ o → o ≡ None
  outside_in None e = refl
  outside_in (Some x) e = let r = numbers-entry es low next n x are e in absurd (elim out [ inl a ↦ omega (arith, r.0) | inr b ↦ omega (arith, r.1) ])

-- The first entry that passes a test is the entry of its number.
pub entry_of-first : (es : List Kept) (low next : ℕ) (p : Kept → Bool) (x : Kept) → AreNumbers low next es → first_where p es ≡ Some x → entry_of es x.number.0 ≡ Some x
entry_of-first [] low next p x are h = absurd (let none : ⊥ = cc in none)
entry_of-first (y ∷ es) low next p x are h = first_in y es low next p x are (p y) h (entry_of-first es (y.number.0 + 1) next p x are.1) where
  first_in : (y : Kept) (es : List Kept) (low next : ℕ) (p : Kept → Bool) (x : Kept) → AreNumbers low next (y ∷ es) → (b : Bool) → cond b (Some y) (first_where p es) ≡ Some x →
      (first_where p es ≡ Some x → entry_of es x.number.0 ≡ Some x) → entry_of (y ∷ es) x.number.0 ≡ Some x
  first_in y es low next p x are true h rest = let same : y ≡ x = cc in subst (λ (z : Kept). entry_of (y ∷ es) z.number.0 ≡ Some z) same (let t : (y.number.0 == y.number.0) ≡ true = eq-true y.number.0 y.number.0 refl in rw t refl)
  first_in y es low next p x are false h rest =
      let later : entry_of es x.number.0 ≡ Some x = rest h in
      let r = numbers-entry es (y.number.0 + 1) next x.number.0 x are.1 later in
      let apart : (y.number.0 == x.number.0) ≡ false = eq-false y.number.0 x.number.0 (λ e. let a : y.number.0 + 1 ≤ x.number.0 = r.0 in omega arith) in
      rw apart later

-- so to change it is to change the entry of its number
pub changed-first : (es : List Kept) (low next : ℕ) (p : Kept → Bool) (change : Kept → Kept) (x : Kept) → AreNumbers low next es → first_where p es ≡ Some x →
    changed_where p change es ≡ changed_where (has_number x.number.0) change es
changed-first [] low next p change x are h = refl
changed-first (y ∷ es) low next p change x are h = first_in y es low next p change x are (p y) h (changed-first es (y.number.0 + 1) next p change x are.1) where
  first_in : (y : Kept) (es : List Kept) (low next : ℕ) (p : Kept → Bool) (change : Kept → Kept) (x : Kept) → AreNumbers low next (y ∷ es) → (b : Bool) → cond b (Some y) (first_where p es) ≡ Some x →
      (first_where p es ≡ Some x → changed_where p change es ≡ changed_where (has_number x.number.0) change es) →
      cond b (change y ∷ es) (y ∷ changed_where p change es) ≡ changed_where (has_number x.number.0) change (y ∷ es)
  first_in y es low next p change x are true h rest = let same : y ≡ x = cc in
      subst (λ (z : Kept). change y ∷ es ≡ changed_where (has_number z.number.0) change (y ∷ es)) same (let t : (y.number.0 == y.number.0) ≡ true = eq-true y.number.0 y.number.0 refl in rw t refl)
  first_in y es low next p change x are false h rest =
      let r = numbers-entry es (y.number.0 + 1) next x.number.0 x are.1 (entry_of-first es (y.number.0 + 1) next p x are.1 h) in
      let apart : (y.number.0 == x.number.0) ≡ false = eq-false y.number.0 x.number.0 (λ e. let a : y.number.0 + 1 ≤ x.number.0 = r.0 in omega arith) in
      rw (apart, rest h) refl

-- the entry that was taken out is gone
pub without-same : (es : List Kept) (low next n : ℕ) → AreNumbers low next es → entry_of (without_where (has_number n) es) n ≡ None
without-same [] low next n are = refl
without-same (x ∷ es) low next n are = same_in x es low next n are (x.number.0 == n) refl (without-same es (x.number.0 + 1) next n are.1) where
  same_in : (x : Kept) (es : List Kept) (low next n : ℕ) → AreNumbers low next (x ∷ es) → (b : Bool) → (x.number.0 == n) ≡ b → entry_of (without_where (has_number n) es) n ≡ None →
      entry_of (cond b es (x ∷ without_where (has_number n) es)) n ≡ None
  same_in x es low next n are true e rest = let same : x.number.0 ≡ n = true-eq x.number.0 n e in numbers-outside es (x.number.0 + 1) next n are.1 (inl (omega arith))
  same_in x es low next n are false e rest = rw e rest

-- the numbers after a change, a removal, an addition
pub numbers-changed : (es : List Kept) (low next : ℕ) (p : Kept → Bool) (change : Kept → Kept) → ((x : Kept) → (change x).number ≡ x.number) → AreNumbers low next es → AreNumbers low next (changed_where p change es)
numbers-changed [] low next p change keeps are = are
numbers-changed (x ∷ es) low next p change keeps are = changed_in x es low next p change keeps are (p x) (numbers-changed es (x.number.0 + 1) next p change keeps are.1) where
  changed_in : (x : Kept) (es : List Kept) (low next : ℕ) (p : Kept → Bool) (change : Kept → Kept) → ((y : Kept) → (change y).number ≡ y.number) → AreNumbers low next (x ∷ es) → (b : Bool) →
      AreNumbers (x.number.0 + 1) next (changed_where p change es) → AreNumbers low next (cond b (change x ∷ es) (x ∷ changed_where p change es))
  changed_in x es low next p change keeps are true rest = subst (λ (k : Number). (low ≤ k.0) × AreNumbers (k.0 + 1) next es) (sym (keeps x)) are
  changed_in x es low next p change keeps are false rest = (are.0, rest)

pub numbers-without : (es : List Kept) (low next : ℕ) (p : Kept → Bool) → AreNumbers low next es → AreNumbers low next (without_where p es)
numbers-without [] low next p are = are
numbers-without (x ∷ es) low next p are = without_in x es low next p are (p x) (numbers-without es (x.number.0 + 1) next p are.1) where
  without_in : (x : Kept) (es : List Kept) (low next : ℕ) (p : Kept → Bool) → AreNumbers low next (x ∷ es) → (b : Bool) → AreNumbers (x.number.0 + 1) next (without_where p es) → AreNumbers low next (cond b es (x ∷ without_where p es))
  without_in x es low next p are true rest = numbers-higher es low (x.number.0 + 1) next (let a : low ≤ x.number.0 = are.0 in omega arith) are.1
  without_in x es low next p are false rest = (are.0, rest)

pub numbers-append : (es : List Kept) (low next : ℕ) (x : Kept) → AreNumbers low next es → x.number.0 ≡ next → AreNumbers low (next + 1) (es ++ x ∷ [])
numbers-append [] low next x are e = (omega arith, omega arith)
numbers-append (y ∷ es) low next x are e = (are.0, numbers-append es (y.number.0 + 1) next x are.1 e)

-- the entries with one more
pub append-same : (es : List Kept) (n : ℕ) (x : Kept) → x.number.0 ≡ n → entry_of es n ≡ None → entry_of (es ++ x ∷ []) n ≡ Some x
append-same es n x e none = first_where-append (has_number n) es (x ∷ []) ∙ (let t : (x.number.0 == n) ≡ true = eq-true x.number.0 n e in rw (none, t) refl)

pub append-other : (es : List Kept) (n : ℕ) (x : Kept) → (x.number.0 ≡ n → ⊥) → entry_of (es ++ x ∷ []) n ≡ entry_of es n
append-other es n x d = first_where-append (has_number n) es (x ∷ []) ∙ (let t : (x.number.0 == n) ≡ false = eq-false x.number.0 n d in rw t (chosen (entry_of es n))) where
  chosen : (o : Option Kept) → (if is_some o then o else None) ≡ o
  chosen None = refl
  chosen (Some y) = refl

-- a later number is as great as the lowest
low-read : (es : List Kept) (low next j : ℕ) (d : Kept) → AreNumbers low next es → j < length es → low ≤ (slice_index_or es j d).number.0
low-read [] low next j d are h = absurd (omega arith)
low-read (x ∷ es) low next zero d are h = are.0
low-read (x ∷ es) low next (suc j) d are h = let a : low ≤ x.number.0 = are.0 in let r = low-read es (x.number.0 + 1) next j d are.1 (omega arith) in omega (arith, r)

-- such numbers rise from place to place
pub numbers-rise : (es : List Kept) (low next : ℕ) → AreNumbers low next es → Rises es
numbers-rise [] low next are i j d lt bound = absurd (omega arith)
numbers-rise (x ∷ es) low next are i zero d lt bound = absurd (omega arith)
numbers-rise (x ∷ es) low next are zero (suc j) d lt bound = let r = low-read es (x.number.0 + 1) next j d are.1 (omega arith) in omega (arith, r)
numbers-rise (x ∷ es) low next are (suc i) (suc j) d lt bound = numbers-rise es (x.number.0 + 1) next are.1 i j d (omega arith) (omega arith)

-- no entry has the next number
pub next-none : (es : List Kept) (next : ℕ) → AreNumbers 2 next es → entry_of es next ≡ None
next-none es next are = numbers-outside es 2 next next are (inr (omega arith))
