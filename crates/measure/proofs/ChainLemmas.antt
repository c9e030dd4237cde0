-- A chain of entries is fit for a map.
use Rattle.std.proofs.Common.{◌≡◌, ℕ, ◌+◌, ◌≤◌, Bool, true, false, cond, ◌||◌, List, [], ◌∷◌, ◌++◌, length, Some, refl, sym, ap, ◌∙◌, subst, arith}
use Rattle.std.specs.Prelude.{◌==◌, nat_lt}
use Rattle.std.specs.List.{AllByRecursion, list_any}
use Rattle.eden_base.proofs.NumberTests.{true-eq}
use Rattle.eden_base.specs.Limits.{end_of_numbers}
use Rattle.eden_base.specs.declared.number.Number.{Number}
use Rattle.eden_base.specs.declared.place.Place.{Place}
use Rattle.eden_base.specs.declared.place.Place.TheVariants.{Linked}
use Rattle.entry_table.proofs.Places.{place-stands, stands-place}
use Rattle.entry_table.specs.Entries.{entry_of, entry_at, stands_at, is_kid_of, is_of_use, AreNumbers, AreApart, AreEntries}
use Rattle.entry_table.specs.declared.kept.Kept.{Kept}
use Rattle.measure.specs.Chain.{IsBelow, IsChain}

pub chain-more : (es : List Kept) (n : ℕ) (x : Kept) → IsChain n es → x.number.0 ≡ n + length es → x.count ≡ 1 → IsBelow (n + length es) x.place → IsChain n (es ++ x ∷ [])
chain-more [] n x chain number once below = (let e : n + 0 ≡ n = omega arith in number ∙ e, once, subst (λ (m : ℕ). IsBelow m x.place) (omega arith) below, tt)
chain-more (y ∷ es) n x chain number once below =
    let e : n + length (y ∷ es) ≡ (n + 1) + length es = omega arith in
    (chain.0, chain.1, chain.2, chain-more es (n + 1) x chain.3 (number ∙ e) once (subst (λ (m : ℕ). IsBelow m x.place) e below))

pub more-length : (es : List Kept) (x : Kept) (n : ℕ) → length es ≡ n → length (es ++ x ∷ []) ≡ n + 1
more-length [] x n e = ap (λ m. m + 1) e
more-length (y ∷ es) x n e = let rest : length (es ++ x ∷ []) ≡ length es + 1 = more-length es x (length es) refl in omega arith

pub chain-numbers : (es : List Kept) (n next : ℕ) → IsChain n es → n + length es ≤ next → AreNumbers n next es
chain-numbers [] n next chain fits = omega arith
chain-numbers (y ∷ es) n next chain fits =
    let e : y.number.0 ≡ n = chain.0 in
    (omega arith, subst (λ (m : ℕ). AreNumbers (m + 1) next es) (sym e) (chain-numbers es (n + 1) next chain.3 (omega arith)))

-- an entry of a chain is below the entry before it
pub chain-entry : (es : List Kept) (n m : ℕ) (kept : Kept) → IsChain n es → entry_of es m ≡ Some kept → (n ≤ m) × IsBelow m kept.place
chain-entry [] n m kept chain found = absurd (let none : ⊥ = cc in none)
chain-entry (y ∷ es) n m kept chain found = in_ (y.number.0 == m) refl found (λ f. chain-entry es (n + 1) m kept chain.3 f) where
  in_ : (b : Bool) → (y.number.0 == m) ≡ b → cond b (Some y) (entry_of es m) ≡ Some kept → (entry_of es m ≡ Some kept → (n + 1 ≤ m) × IsBelow m kept.place) → (n ≤ m) × IsBelow m kept.place
  in_ true e f later =
      let same : y ≡ kept = cc in
      let number : y.number.0 ≡ n = chain.0 in
      let at : y.number.0 ≡ m = true-eq y.number.0 m e in
      let eq : n ≡ m = omega arith in
      (omega arith, subst (λ (k : Kept). IsBelow m k.place) same (subst (λ (k : ℕ). IsBelow k y.place) eq chain.2))
  in_ false e f later = let rest = later f in let l : n + 1 ≤ m = rest.0 in (omega arith, rest.1)

dirs_alike : (place : Place) (dir other : Number) (name linked : List ℕ) → place ≡ Linked dir name → place ≡ Linked other linked → dir.0 ≡ other.0
dirs_alike place dir other name linked e f = let both : Linked dir name ≡ Linked other linked = sym e ∙ f in let same : dir ≡ other = cc in ap (λ (d : Number). d.0) same

-- no two entries of a chain are in one directory
pub chain-apart : (es : List Kept) (n : ℕ) → IsChain n es → AreApart es
chain-apart [] n chain m kept dir name found place = absurd (let none : ⊥ = cc in none)
chain-apart (y ∷ es) n chain m kept dir name found place = in_ (y.number.0 == m) refl found (λ f. chain-apart es (n + 1) chain.3 m kept dir name f place) where
  other : (b : Bool) → stands_at dir.0 name y ≡ b → n + 1 ≤ m → IsBelow m kept.place → entry_at es dir.0 name ≡ Some kept → cond b (Some y) (entry_at es dir.0 name) ≡ Some kept
  other false s l below rest = rest
  other true s l below rest =
      let there : y.place ≡ Linked (record { 0 = dir.0 }) name = stands-place dir.0 name y s in
      let up = chain.2 in
      let mine : up.0.0 ≡ dir.0 = dirs_alike y.place up.0 (record { 0 = dir.0 }) up.1 name up.2 there in
      let its : below.0.0 ≡ dir.0 = dirs_alike kept.place below.0 dir below.1 name below.2 place in
      let a : up.0.0 + 1 ≡ n = up.3 in let b : below.0.0 + 1 ≡ m = below.3 in
      absurd (omega arith)

  in_ : (b : Bool) → (y.number.0 == m) ≡ b → cond b (Some y) (entry_of es m) ≡ Some kept → (entry_of es m ≡ Some kept → entry_at es dir.0 name ≡ Some kept) → cond (stands_at dir.0 name y) (Some y) (entry_at es dir.0 name) ≡ Some kept
  in_ true e f later =
      let same : y ≡ kept = cc in
      let there : stands_at dir.0 name y ≡ true = place-stands dir.0 name y (ap (λ (k : Kept). k.place) same ∙ place) in
      rw there (ap (λ (k : Kept). Some k) same)
  in_ false e f later =
      let rest = chain-entry es (n + 1) m kept chain.3 f in
      other (stands_at dir.0 name y) refl rest.0 rest.1 (later f)

pub chain-of_use : (all es : List Kept) (n : ℕ) → IsChain n es → AllByRecursion (λ (kept : Kept). is_of_use all kept ≡ true) es
chain-of_use all [] n chain = tt
chain-of_use all (y ∷ es) n chain = (ap (λ (count : ℕ). nat_lt 0 count || list_any (is_kid_of y.number.0) all) chain.1, chain-of_use all es (n + 1) chain.3)

-- a chain's entries are such as a map may have
pub chain-entries : (es : List Kept) (next : ℕ) → IsChain 2 es → next ≡ 2 + length es → next ≤ end_of_numbers → AreEntries es next
chain-entries es next chain e fits = record {
  numbers = chain-numbers es 2 next chain (omega arith);
  last = fits;
  apart = chain-apart es 2 chain;
  of_use = chain-of_use es es 2 chain;
}
