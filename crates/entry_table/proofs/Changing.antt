-- Entries after a count changed, or after the next number was added: what they were, and whether they are of use.
use Rattle.std.proofs.Common.{◌≡◌, ℕ, ◌<◌, Bool, true, false, ◌||◌, List, [], ◌∷◌, ◌++◌, Option, Some, None, refl, sym, ap, ◌∙◌, subst, inl, inr, ◌⊎◌, arith}
use Rattle.std.specs.Prelude.{nat_lt}
use Rattle.std.specs.Option.{option_map, option_map_or}
use Rattle.std.specs.List.{list_any}
use Rattle.std.proofs.lemmas.Bool.Decides.{nat_tests}
use Rattle.eden_base.proofs.MemberLemmas.{some-none, some-same, any-changed, any-append}
use Rattle.eden_base.proofs.NumberTests.{eq-or}
use Rattle.eden_base.specs.First.{changed_where}
use Rattle.entry_table.specs.EntryPlaces.{AreOfUseBut}
use Rattle.entry_table.specs.Entries.{has_number, entry_of, count_of, is_kid_of, is_in, is_of_use}
use Rattle.entry_table.specs.declared.kept.Kept.{Kept}
use Rattle.entry_table.proofs.EntryLemmas.{changed-same, changed-other, append-same, append-other}
use Rattle.entry_table.proofs.FileLemmas.{Extends}

-- a change of a count alone
pub record KeepsPlace (change : Kept → Kept) : Type 0 where
  pub number : (x : Kept) → (change x).number ≡ x.number
  pub place : (x : Kept) → (change x).place ≡ x.place

-- an entry of the changed list, and what it was
pub record WasEntry (es : List Kept) (k m : ℕ) (change : Kept → Kept) (now : Kept) : Type 0 where
  pub kept : Kept
  pub was : entry_of es m ≡ Some kept
  pub place : now.place ≡ kept.place
  pub how : ((m ≡ k) × (now ≡ change kept)) ⊎ ((m ≡ k → ⊥) × (now ≡ kept))

some_of_map : (o : Option Kept) (change : Kept → Kept) (now : Kept) → option_map change o ≡ Some now → (kept : Kept) × (o ≡ Some kept) × (now ≡ change kept)
some_of_map None change now h = absurd (let none : ⊥ = cc in none)
some_of_map (Some kept) change now h = (kept, refl, let e : change kept ≡ now = cc in sym e)

pub changed-was : (es : List Kept) (k m : ℕ) (change : Kept → Kept) (now : Kept) → KeepsPlace change → entry_of (changed_where (has_number k) change es) m ≡ Some now → WasEntry es k m change now
changed-was es k m change now keeps h = was_in (eq-or m k) where
  was_in : (m ≡ k) ⊎ (m ≡ k → ⊥) → WasEntry es k m change now
  was_in (inl same) =
      let there : option_map change (entry_of es m) ≡ Some now =
      subst (λ (j : ℕ). option_map change (entry_of es j) ≡ Some now) (sym same) (sym (changed-same es k change keeps.number) ∙ subst (λ (j : ℕ). entry_of (changed_where (has_number k) change es) j ≡ Some now) same h) in
      let s = some_of_map (entry_of es m) change now there in
      record { kept = s.0; was = s.1; place = ap (λ (x : Kept). x.place) s.2 ∙ keeps.place s.0; how = inl (same, s.2) }
  was_in (inr other) = record { kept = now; was = sym (changed-other es k m change keeps.number other) ∙ h; place = refl; how = inr (other, refl) }

-- where an entry goes
pub changed-extends : (es : List Kept) (k : ℕ) (change : Kept → Kept) → KeepsPlace change → Extends es (changed_where (has_number k) change es)
changed-extends es k change keeps n kept e = ext_in (eq-or n k) where
  ext_in : (n ≡ k) ⊎ (n ≡ k → ⊥) → (now : Kept) × (entry_of (changed_where (has_number k) change es) n ≡ Some now) × (now.place ≡ kept.place)
  ext_in (inl same) = (
    change kept,
    subst (λ (j : ℕ). entry_of (changed_where (has_number k) change es) j ≡ Some (change kept)) (sym same)
        (changed-same es k change keeps.number ∙ ap (option_map change) (subst (λ (j : ℕ). entry_of es j ≡ Some kept) same e)),
    keeps.place kept,
  )
  ext_in (inr other) = (kept, changed-other es k n change keeps.number other ∙ e, refl)

-- and where it came from
pub changed-extended : (es : List Kept) (k : ℕ) (change : Kept → Kept) → KeepsPlace change → Extends (changed_where (has_number k) change es) es
changed-extended es k change keeps n now e = let w = changed-was es k n change now keeps e in (w.kept, w.was, sym w.place)

-- whether something stands in a directory
pub kids-changed : (es : List Kept) (k n : ℕ) (change : Kept → Kept) → KeepsPlace change → list_any (is_kid_of n) (changed_where (has_number k) change es) ≡ list_any (is_kid_of n) es
kids-changed es k n change keeps = any-changed es (has_number k) (is_kid_of n) change (λ x. ap (is_in n) (keeps.place x))

-- of use still, with the same count
use_same : (es : List Kept) (k : ℕ) (change : Kept → Kept) (x : Kept) → KeepsPlace change → is_of_use es x ≡ true → is_of_use (changed_where (has_number k) change es) x ≡ true
use_same es k change x keeps h = ap (λ b. nat_lt 0 x.count || b) (kids-changed es k x.number.0 change keeps) ∙ h

-- a number that is counted is of use
pub counted-of_use : (es : List Kept) (x : Kept) → 0 < x.count → is_of_use es x ≡ true
counted-of_use es x some = let t : nat_lt 0 x.count ≡ true = grind (arith, nat_tests) in rw t refl

-- A number that is counted once more is of use, and each other one still is.
pub raised-of_use : (es : List Kept) (k : ℕ) (change : Kept → Kept) → KeepsPlace change → ((x : Kept) → 0 < (change x).count) → AreOfUseBut None es → AreOfUseBut None (changed_where (has_number k) change es)
raised-of_use es k change keeps some useful n now e = let w = changed-was es k n change now keeps e in how_in w w.how where
  how_in : (w : WasEntry es k n change now) → ((n ≡ k) × (now ≡ change w.kept)) ⊎ ((n ≡ k → ⊥) × (now ≡ w.kept)) → (is_of_use (changed_where (has_number k) change es) now ≡ true) ⊎ (None ≡ Some n)
  how_in w (inl (same, is)) = inl (counted-of_use (changed_where (has_number k) change es) now (subst (λ (x : Kept). 0 < x.count) (sym is) (some w.kept)))
  how_in w (inr (other, is)) = kept_in (useful n w.kept w.was) where
    kept_in : (is_of_use es w.kept ≡ true) ⊎ (None ≡ Some n) → (is_of_use (changed_where (has_number k) change es) now ≡ true) ⊎ (None ≡ Some n)
    kept_in (inl t) = inl (subst (λ (x : Kept). is_of_use (changed_where (has_number k) change es) x ≡ true) (sym is) (use_same es k change w.kept keeps t))
    kept_in (inr h) = inr h

-- Only the number that is counted less may be of no use.
pub lowered-of_use : (es : List Kept) (k : ℕ) (change : Kept → Kept) → KeepsPlace change → AreOfUseBut None es → AreOfUseBut (Some k) (changed_where (has_number k) change es)
lowered-of_use es k change keeps useful n now e = let w = changed-was es k n change now keeps e in how_in w w.how where
  how_in : (w : WasEntry es k n change now) → ((n ≡ k) × (now ≡ change w.kept)) ⊎ ((n ≡ k → ⊥) × (now ≡ w.kept)) → (is_of_use (changed_where (has_number k) change es) now ≡ true) ⊎ (Some k ≡ Some n)
  how_in w (inl (same, is)) = inr (ap Some (sym same))
  how_in w (inr (other, is)) = kept_in (useful n w.kept w.was) where
    kept_in : (is_of_use es w.kept ≡ true) ⊎ (None ≡ Some n) → (is_of_use (changed_where (has_number k) change es) now ≡ true) ⊎ (Some k ≡ Some n)
    kept_in (inl t) = inl (subst (λ (x : Kept). is_of_use (changed_where (has_number k) change es) x ≡ true) (sym is) (use_same es k change w.kept keeps t))
    kept_in (inr h) = absurd (let none : ⊥ = cc in none)

-- the counts after a change
count-from : (o p : Option Kept) → o ≡ p → option_map_or (λ (y : Kept). y.count) o 0 ≡ option_map_or (λ (y : Kept). y.count) p 0
count-from o p e = ap (λ (q : Option Kept). option_map_or (λ (y : Kept). y.count) q 0) e

pub count_of-entry : (es : List Kept) (n : ℕ) (kept : Kept) → entry_of es n ≡ Some kept → count_of es n ≡ kept.count
count_of-entry es n kept e = count-from (entry_of es n) (Some kept) e

pub count_of-none : (es : List Kept) (n : ℕ) → entry_of es n ≡ None → count_of es n ≡ 0
count_of-none es n e = count-from (entry_of es n) None e

pub count_of-alike : (es other : List Kept) (n : ℕ) → entry_of es n ≡ entry_of other n → count_of es n ≡ count_of other n
count_of-alike es other n e = count-from (entry_of es n) (entry_of other n) e

pub count-changed_same : (es : List Kept) (k : ℕ) (change : Kept → Kept) (x : Kept) → KeepsPlace change → entry_of es k ≡ Some x → count_of (changed_where (has_number k) change es) k ≡ (change x).count
count-changed_same es k change x keeps e = count-from (entry_of (changed_where (has_number k) change es) k) (Some (change x)) (changed-same es k change keeps.number ∙ ap (option_map change) e)

pub count-changed_other : (es : List Kept) (k m : ℕ) (change : Kept → Kept) → KeepsPlace change → (m ≡ k → ⊥) → count_of (changed_where (has_number k) change es) m ≡ count_of es m
count-changed_other es k m change keeps d = count_of-alike (changed_where (has_number k) change es) es m (changed-other es k m change keeps.number d)

-- an entry of the longer list
pub new_or_old : (es : List Kept) (next m : ℕ) (x now : Kept) → x.number.0 ≡ next → entry_of es next ≡ None → entry_of (es ++ x ∷ []) m ≡ Some now → ((m ≡ next) × (now ≡ x)) ⊎ (entry_of es m ≡ Some now)
new_or_old es next m x now e none h = in_ (eq-or m next) where
  in_ : (m ≡ next) ⊎ (m ≡ next → ⊥) → ((m ≡ next) × (now ≡ x)) ⊎ (entry_of es m ≡ Some now)
  in_ (inl same) =
      let there : entry_of (es ++ x ∷ []) m ≡ Some x = subst (λ (j : ℕ). entry_of (es ++ x ∷ []) j ≡ Some x) (sym same) (append-same es next x e none) in
      inl (same, some-same (entry_of (es ++ x ∷ []) m) now x h there)
  in_ (inr other) = inr (sym (append-other es m x (λ f. other (sym f ∙ e))) ∙ h)

pub append-extends : (es : List Kept) (next : ℕ) (x : Kept) → x.number.0 ≡ next → entry_of es next ≡ None → Extends es (es ++ x ∷ [])
append-extends es next x e none n kept h = (kept, append-other es n x (λ f. some-none (entry_of es n) kept h (subst (λ (j : ℕ). entry_of es j ≡ None) (sym (sym f ∙ e)) none)) ∙ h, refl)

-- A number that is added with a count is of use, and each other one still is.
pub added-of_use : (es : List Kept) (next : ℕ) (x : Kept) → x.number.0 ≡ next → entry_of es next ≡ None → 0 < x.count → AreOfUseBut None es → AreOfUseBut None (es ++ x ∷ [])
added-of_use es next x is none some useful n now e = in_ (new_or_old es next n x now is none e) where
  in_ : ((n ≡ next) × (now ≡ x)) ⊎ (entry_of es n ≡ Some now) → (is_of_use (es ++ x ∷ []) now ≡ true) ⊎ (None ≡ Some n)
  in_ (inl (a, same)) = inl (counted-of_use (es ++ x ∷ []) now (subst (λ (y : Kept). 0 < y.count) (sym same) some))
  in_ (inr was) = use_in (useful n now was) where
    use_in : (is_of_use es now ≡ true) ⊎ (None ≡ Some n) → (is_of_use (es ++ x ∷ []) now ≡ true) ⊎ (None ≡ Some n)
    use_in (inl t) = inl (or_in (nat_lt 0 now.count) (list_any (is_kid_of now.number.0) es) t (any-append es (is_kid_of now.number.0) x)) where
      or_in : (b c : Bool) → (b || c) ≡ true → (c ≡ true → list_any (is_kid_of now.number.0) (es ++ x ∷ []) ≡ true) → (b || list_any (is_kid_of now.number.0) (es ++ x ∷ [])) ≡ true
      or_in true c h more = refl
      or_in false c h more = more h
    use_in (inr h) = inr h
