-- Striking what is of no use, a number after another: the walk upwards.
use Rattle.std.proofs.Common.{◌≡◌, ℕ, zero, suc, ◌+◌, Bool, true, false, not, List, [], ◌∷◌, Option, Some, None, refl, sym, ap, ◌∙◌, subst, inl, inr, ◌⊎◌, arith, length}
use Rattle.std.proofs.lemmas.Bool.{not-true, or_parts}
use Rattle.std.specs.Prelude.{◌==◌, ◌||◌, nat_lt}
use Rattle.std.specs.Option.{option_map_or}
use Rattle.std.specs.List.{filter, list_any}
use Rattle.std.proofs.lemmas.Bool.Decides.{nat_tests}
use Rattle.eden_base.proofs.MemberLemmas.{length-without_where}
use Rattle.eden_base.proofs.NumberTests.{eq-true, eq-false, eq-or}
use Rattle.eden_base.specs.First.{without_where}
use Rattle.entry_table.specs.EntryPlaces.{AreOfUseBut}
use Rattle.entry_table.specs.Entries.{has_number, entry_of, is_kid_of, is_of_use, AreNumbers}
use Rattle.inode_map.specs.InodeMap.{is_useless, struck, struck_once, left_of_use}
use Rattle.entry_table.specs.declared.kept.Kept.{Kept}
use Rattle.entry_table.proofs.EntryLemmas.{numbers-entry, entry_of-number}

-- an entry that is of no use: it has no count, and nothing stands in it
pub record IsUseless (es : List Kept) (n : ℕ) (kept : Kept) : Type 0 where
  pub entry : entry_of es n ≡ Some kept
  pub no_count : kept.count ≡ 0
  pub no_kids : list_any (is_kid_of n) es ≡ false

pub useless-entry : (es : List Kept) (n : ℕ) → is_useless es n ≡ true → (kept : Kept) × IsUseless es n kept
useless-entry es n h = useless_in (entry_of es n) refl h where
  useless_in : (o : Option Kept) → entry_of es n ≡ o → option_map_or (λ (kept : Kept). not (is_of_use es kept)) o false ≡ true → (kept : Kept) × IsUseless es n kept
  useless_in None e h' = absurd (let none : ⊥ = cc in none)
  useless_in (Some kept) e h' =
      let p = or_parts (nat_lt 0 kept.count) (list_any (is_kid_of kept.number.0) es) (not-true (is_of_use es kept) h') in
      let zero_count : nat_lt 0 kept.count ≡ false = p.0 in
      (kept, record { entry = e; no_count = grind (arith, nat_tests); no_kids = subst (λ (m : ℕ). list_any (is_kid_of m) es ≡ false) (entry_of-number es n kept e) p.1 })

-- an entry in whose directory another stands is of use
pub kids-useful : (es : List Kept) (n : ℕ) → list_any (is_kid_of n) es ≡ true → is_useless es n ≡ false
kids-useful es n kids = kids_in (entry_of es n) refl where
  either : (b : Bool) → not (b || true) ≡ false
  either true = refl
  either false = refl

  kids_in : (o : Option Kept) → entry_of es n ≡ o → option_map_or (λ (kept : Kept). not (is_of_use es kept)) o false ≡ false
  kids_in None e = refl
  kids_in (Some kept) e =
      let own : list_any (is_kid_of kept.number.0) es ≡ true = subst (λ (m : ℕ). list_any (is_kid_of m) es ≡ true) (sym (entry_of-number es n kept e)) kids in
      ap (λ b. not (nat_lt 0 kept.count || b)) own ∙ either (nat_lt 0 kept.count)

-- the number of an entry of a shorter list is that of the longer one
tail-entry : (x : Kept) (es : List Kept) (low next n : ℕ) (kept : Kept) → AreNumbers low next (x ∷ es) → entry_of es n ≡ Some kept → entry_of (x ∷ es) n ≡ Some kept
tail-entry x es low next n kept are e =
    let r = numbers-entry es (x.number.0 + 1) next n kept are.1 e in
    let other : (x.number.0 == n) ≡ false = eq-false x.number.0 n (λ s. omega (arith, r.0)) in
    rw other e

head-entry : (x : Kept) (es : List Kept) → entry_of (x ∷ es) x.number.0 ≡ Some x
head-entry x es = let t : (x.number.0 == x.number.0) ≡ true = eq-true x.number.0 x.number.0 refl in rw t refl

-- what passes a test for each entry stays whole
filter-all : (p : Kept → Bool) (es : List Kept) (low next : ℕ) → AreNumbers low next es → ((n : ℕ) (kept : Kept) → entry_of es n ≡ Some kept → p kept ≡ true) → filter p es ≡ es
filter-all p [] low next are passes = refl
filter-all p (x ∷ es) low next are passes =
    let here : p x ≡ true = passes x.number.0 x (head-entry x es) in
    let rest : filter p es ≡ es = filter-all p es (x.number.0 + 1) next are.1 (λ n kept e. passes n kept (tail-entry x es low next n kept are e)) in
    rw (here, rest) refl

-- what fails it at one number alone is the list without that
filter-one : (p : Kept → Bool) (es : List Kept) (low next n : ℕ) → AreNumbers low next es →
    ((m : ℕ) (kept : Kept) → entry_of es m ≡ Some kept → ((m ≡ n) × (p kept ≡ false)) ⊎ ((m ≡ n → ⊥) × (p kept ≡ true))) → filter p es ≡ without_where (has_number n) es
filter-one p [] low next n are tells = refl
filter-one p (x ∷ es) low next n are tells =
    here_in (tells x.number.0 x (head-entry x es)) (filter-one p es (x.number.0 + 1) next n are.1 (λ m kept e. tells m kept (tail-entry x es low next m kept are e))) where
      here_in : ((x.number.0 ≡ n) × (p x ≡ false)) ⊎ ((x.number.0 ≡ n → ⊥) × (p x ≡ true)) → filter p es ≡ without_where (has_number n) es → filter p (x ∷ es) ≡ without_where (has_number n) (x ∷ es)
      here_in (inl (same, fails)) less =
          let t : (x.number.0 == n) ≡ true = eq-true x.number.0 n same in
          let rest : filter p es ≡ es = filter-all p es (x.number.0 + 1) next are.1 (λ m kept e. later_in m kept e (tells m kept (tail-entry x es low next m kept are e))) in
          rw (fails, t, rest) refl where
            later_in : (m : ℕ) (kept : Kept) → entry_of es m ≡ Some kept → ((m ≡ n) × (p kept ≡ false)) ⊎ ((m ≡ n → ⊥) × (p kept ≡ true)) → p kept ≡ true
            later_in m kept e (inl (again, f)) = absurd (let r = numbers-entry es (x.number.0 + 1) next m kept are.1 e in omega (arith, r.0))
            later_in m kept e (inr (other, t')) = t'
      here_in (inr (other, passes)) less = let t : (x.number.0 == n) ≡ false = eq-false x.number.0 n other in rw (passes, t, less) refl

struck-same : (rounds : ℕ) (es : List Kept) → struck_once es ≡ es → struck rounds es ≡ es
struck-same zero es e = refl
struck-same (suc rounds) es e = rw e (struck-same rounds es e)

-- where each entry is of use, none is struck
pub left_of_use-all : (es : List Kept) (low next : ℕ) → AreNumbers low next es → AreOfUseBut None es → left_of_use es ≡ es
left_of_use-all es low next are useful = struck-same (length es) es (filter-all (is_of_use es) es low next are (λ n kept e. used (useful n kept e))) where
  used : {b : Bool} {n : ℕ} → (b ≡ true) ⊎ (None ≡ Some n) → b ≡ true
  used (inl t) = t
  used (inr h) = absurd (let none : ⊥ = cc in none)

-- Where one number alone is of no use, it is struck and what is left of use is that of the others.
pub left_of_use-one : (es : List Kept) (low next n : ℕ) → AreNumbers low next es → AreOfUseBut (Some n) es → is_useless es n ≡ true → left_of_use es ≡ left_of_use (without_where (has_number n) es)
left_of_use-one es low next n are useful h =
    let u = useless-entry es n h in
    let once : struck_once es ≡ without_where (has_number n) es = filter-one (is_of_use es) es low next n are (λ m kept e. tells m kept e (eq-or m n)) in
    let long : suc (length (without_where (has_number n) es)) ≡ length es = length-without_where es (has_number n) u.0 u.1.entry in
    sym (ap (λ (r : ℕ). struck r es) long) ∙ ap (λ (xs : List Kept). struck (length (without_where (has_number n) es)) xs) once where
      of_none : (kept : Kept) → entry_of es n ≡ Some kept → is_of_use es kept ≡ false
      of_none kept e = not-true (is_of_use es kept) (sym (ap (λ (o : Option Kept). option_map_or (λ (k : Kept). not (is_of_use es k)) o false) e) ∙ h)

      tells : (m : ℕ) (kept : Kept) → entry_of es m ≡ Some kept → (m ≡ n) ⊎ (m ≡ n → ⊥) → ((m ≡ n) × (is_of_use es kept ≡ false)) ⊎ ((m ≡ n → ⊥) × (is_of_use es kept ≡ true))
      tells m kept e (inl same) = inl (same, of_none kept (subst (λ (j : ℕ). entry_of es j ≡ Some kept) same e))
      tells m kept e (inr other) = inr (other, used (useful m kept e)) where
        used : (is_of_use es kept ≡ true) ⊎ (Some n ≡ Some m) → is_of_use es kept ≡ true
        used (inl t) = t
        used (inr s) = absurd (other (let same : n ≡ m = cc in sym same))
