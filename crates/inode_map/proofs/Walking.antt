-- The walk upwards that strikes what is of no use: what each step keeps, the end keeps.
use Rattle.std.proofs.Common.{◌≡◌, ℕ, zero, suc, ◌≤◌, Bool, true, false, not, ◌||◌, List, [], ◌∷◌, Option, Some, None, refl, sym, ap, ◌∙◌, subst, inl, inr, ◌⊎◌, arith, length}
use Rattle.std.proofs.lemmas.Bool.{not-false, or_cases, or_right}
use Rattle.std.specs.Prelude.{nat_lt}
use Rattle.std.specs.Option.{option_map_or}
use Rattle.std.specs.List.{list_any}
use Rattle.eden_base.proofs.MemberLemmas.{some-none, some-same, any-without, length-without_where}
use Rattle.eden_base.proofs.NumberTests.{true-eq, eq-or}
use Rattle.eden_base.specs.declared.place.Place.{Place}
use Rattle.eden_base.specs.declared.place.Place.TheVariants.{Linked, Unlinked}
use Rattle.eden_base.specs.First.{without_where}
use Rattle.entry_table.specs.EntryPlaces.{AreOfUseBut, dir_of}
use Rattle.entry_table.specs.Entries.{has_number, entry_of, is_kid_of, is_in, is_of_use, AreNumbers}
use Rattle.inode_map.specs.InodeMap.{is_useless, left_of_use}
use Rattle.entry_table.specs.declared.kept.Kept.{Kept}
use Rattle.entry_table.proofs.EntryLemmas.{entry_of-number, numbers-without, without-same, without-other}
use Rattle.inode_map.proofs.Striking.{IsUseless, useless-entry, left_of_use-all, left_of_use-one}

-- an entry that was left
pub left-entry : (es : List Kept) (low next n m : ℕ) (now : Kept) → AreNumbers low next es → entry_of (without_where (has_number n) es) m ≡ Some now → (m ≡ n → ⊥) × (entry_of es m ≡ Some now)
left-entry es low next n m now are h = left_in (eq-or m n) where
  left_in : (m ≡ n) ⊎ (m ≡ n → ⊥) → (m ≡ n → ⊥) × (entry_of es m ≡ Some now)
  left_in (inl same) = absurd (some-none (entry_of (without_where (has_number n) es) m) now h
      (subst (λ (j : ℕ). entry_of (without_where (has_number n) es) j ≡ None) (sym same) (without-same es low next n are)))
  left_in (inr other) = (other, sym (without-other es n m other) ∙ h)

-- a directory with something in it
dir_is : (place : Place) (m : ℕ) → is_in m place ≡ true → dir_of place ≡ Some m
dir_is (Linked dir name) m h = ap Some (true-eq dir.0 m h)
dir_is (Unlinked file) m h = absurd (let none : ⊥ = cc in none)

-- Only the directory of the number that left may be of no use then.
pub left-of_use : (es : List Kept) (low next n : ℕ) (gone : Kept) → AreNumbers low next es → IsUseless es n gone → AreOfUseBut (Some n) es → AreOfUseBut (dir_of gone.place) (without_where (has_number n) es)
left-of_use es low next n gone are u useful m now e = use_in (useful m now l.1) where
  l : (m ≡ n → ⊥) × (entry_of es m ≡ Some now)
  l = left-entry es low next n m now are e

  new : List Kept
  new = without_where (has_number n) es

  number : now.number.0 ≡ m
  number = entry_of-number es m now l.1

  kids_in : (c : Bool) → is_kid_of m gone ≡ c → list_any (is_kid_of m) es ≡ true → (list_any (is_kid_of m) new ≡ true) ⊎ (dir_of gone.place ≡ Some m)
  kids_in true t k = inr (dir_is gone.place m t)
  kids_in false t k = inl (any-without es (has_number n) (is_kid_of m) (λ x f. let same : x ≡ gone = some-same (entry_of es n) x gone f u.entry in subst (λ (y : Kept). is_kid_of m y ≡ false) (sym same) t) k)

  done : (list_any (is_kid_of m) new ≡ true) ⊎ (dir_of gone.place ≡ Some m) → (is_of_use new now ≡ true) ⊎ (dir_of gone.place ≡ Some m)
  done (inl k) = inl (or_right (nat_lt 0 now.count) (list_any (is_kid_of now.number.0) new) (subst (λ (j : ℕ). list_any (is_kid_of j) new ≡ true) (sym number) k))
  done (inr d) = inr d

  parts : (nat_lt 0 now.count ≡ true) ⊎ (list_any (is_kid_of now.number.0) es ≡ true) → (is_of_use new now ≡ true) ⊎ (dir_of gone.place ≡ Some m)
  parts (inl t) = inl (ap (λ b. b || list_any (is_kid_of now.number.0) new) t)
  parts (inr t) = done (kids_in (is_kid_of m gone) refl (subst (λ (j : ℕ). list_any (is_kid_of j) es ≡ true) number t))

  use_in : (is_of_use es now ≡ true) ⊎ (Some n ≡ Some m) → (is_of_use new now ≡ true) ⊎ (dir_of gone.place ≡ Some m)
  use_in (inl t) = parts (or_cases (nat_lt 0 now.count) (list_any (is_kid_of now.number.0) es) t)
  use_in (inr same) = absurd (l.0 (let e' : n ≡ m = cc in sym e'))

-- no entry is of no use if the only one that may be is of use
pub all-of_use : (es : List Kept) (n : ℕ) → is_useless es n ≡ false → AreOfUseBut (Some n) es → AreOfUseBut None es
all-of_use es n h useful m now e = in_ (useful m now e) where
  in_ : (is_of_use es now ≡ true) ⊎ (Some n ≡ Some m) → (is_of_use es now ≡ true) ⊎ (None ≡ Some m)
  in_ (inl t) = inl t
  in_ (inr s) = let same : n ≡ m = cc in
      let there : entry_of es n ≡ Some now = subst (λ (j : ℕ). entry_of es j ≡ Some now) (sym same) e in
      inl (not-false (is_of_use es now) (sym (ap (λ (o : Option Kept). option_map_or (λ (k : Kept). not (is_of_use es k)) o false) there) ∙ h))

-- what striking leaves, for a fact that each step keeps
pub record IsStruck (P : List Kept → Type 0) (low next : ℕ) (new : List Kept) : Type 0 where
  pub numbers : AreNumbers low next new
  pub of_use : AreOfUseBut None new
  pub kept : P new

stays : (P : List Kept → Type 0) (low next : ℕ) (es : List Kept) → AreNumbers low next es → AreOfUseBut None es → P es → IsStruck P low next (left_of_use es)
stays P low next es are useful here = subst (λ (xs : List Kept). IsStruck P low next xs) (sym (left_of_use-all es low next are useful)) (record { numbers = are; of_use = useful; kept = here })

none_of_use : (es : List Kept) → length es ≤ 0 → AreOfUseBut None es
none_of_use [] h n kept e = absurd (let none : ⊥ = cc in none)
none_of_use (x ∷ es) h n kept e = absurd (omega arith)

-- Where one number alone may be of no use, what each strike of a number of no use keeps holds of what is left.
pub struck-keeps : (P : List Kept → Type 0) (low next : ℕ) →
    ((es : List Kept) (n : ℕ) → AreNumbers low next es → is_useless es n ≡ true → P es → P (without_where (has_number n) es)) →
    (steps : ℕ) (but : Option ℕ) (es : List Kept) → length es ≤ steps → AreNumbers low next es → AreOfUseBut but es → P es → IsStruck P low next (left_of_use es)
struck-keeps P low next step zero but es short are useful here = stays P low next es are (none_of_use es short) here
struck-keeps P low next step (suc steps) None es short are useful here = stays P low next es are useful here
struck-keeps P low next step (suc steps) (Some n) es short are useful here =
    step_in (is_useless es n) refl (λ but less more. struck-keeps P low next step steps but (without_where (has_number n) es) less (numbers-without es low next (has_number n) are) more) where
      step_in : (b : Bool) → is_useless es n ≡ b →
          ((but : Option ℕ) → length (without_where (has_number n) es) ≤ steps → AreOfUseBut but (without_where (has_number n) es) → P (without_where (has_number n) es) → IsStruck P low next (left_of_use (without_where (has_number n) es))) →
          IsStruck P low next (left_of_use es)
      step_in false h rest = stays P low next es are (all-of_use es n h useful) here
      step_in true h rest =
          let u = useless-entry es n h in
          let long : suc (length (without_where (has_number n) es)) ≡ length es = length-without_where es (has_number n) u.0 u.1.entry in
          subst (λ (xs : List Kept). IsStruck P low next xs) (sym (left_of_use-one es low next n are useful h))
          (rest (dir_of u.0.place) (omega arith) (left-of_use es low next n u.0 are u.1 useful) (step es n are h here))
