-- Given entries, put into a table one after another.
use Rattle.std.proofs.Common.{◌≡◌, ℕ, zero, suc, ◌+◌, ◌<◌, ◌≤◌, Bool, true, false, cond, List, [], ◌∷◌, ◌++◌, length, take, drop, get_or, Option, Some, None, refl, sym, ap, ◌∙◌, subst, inl, inr, ◌⊎◌, arith}
use Rattle.std.specs.Prelude.{◌==◌}
use Rattle.std.specs.List.{AllByRecursion}
use Rattle.std.proofs.lemmas.List.{take_more}
use Rattle.directory_index.specs.CountedIndex.{IsCountedOf}
use Rattle.directory_index.specs.Standing.{inserted, AreKnown, Standing, StandsNowhere}
use Rattle.directory_index.specs.declared.counted_index.CountedIndex.{CountedIndex}
use Rattle.eden_base.specs.First.{first_where}
use Rattle.eden_base.specs.declared.number.FileId.{FileId}
use Rattle.eden_base.specs.declared.number.Number.{Number}
use Rattle.eden_base.specs.declared.place.Place.TheVariants.{Linked, Unlinked}
use Rattle.eden_base.proofs.NumberTests.{eq-true, eq-false, eq-or}
use Rattle.eden_base.proofs.MemberLemmas.{some-same, some-none}
use Rattle.entry_table.specs.Entries.{by_number, stands_at, entry_of, entry_at, has_number, AreNumbers, AreEntries}
use Rattle.entry_table.specs.Slots.{slots_of, kept_from, files_from, notes_from, AreSlots}
use Rattle.entry_table.specs.Standing.{place_of_number, place_under, IsIndexed}
use Rattle.entry_table.specs.Table.{kept_of}
use Rattle.entry_table.specs.declared.kept.Kept.{Kept}
use Rattle.entry_table.specs.declared.kept.Entry.{Entry}
use Rattle.entry_table.proofs.EntryLemmas.{entry_of-first, numbers-bound, numbers-outside}
use Rattle.entry_table.proofs.Placed.{added-elsewhere, added-here, placed-free, placed-linked, placed-none, placed-some}
use Rattle.entry_table.proofs.SlotLemmas.{kept-append, kept-front, kept-past}
use Rattle.entry_table.proofs.Standing.{indexed-gained, indexed-same, under}

-- a list, cut at one of its members
pub cut : {X : Type 0} (xs : List X) (i : ℕ) (x : X) → i < length xs → x ≡ get_or xs i x → xs ≡ take i xs ++ x ∷ drop (suc i) xs
cut [] i x h e = absurd (omega arith)
cut (y ∷ xs) zero x h e = ap (λ z. z ∷ xs) (sym e)
cut (y ∷ xs) (suc i) x h e = ap (λ zs. y ∷ zs) (cut xs i x (omega arith) e)

-- the numbers before one that comes later
pub numbers-before : (done : List Kept) (x : Kept) (rest : List Kept) (low next : ℕ) → AreNumbers low next (done ++ x ∷ rest) → AreNumbers low x.number.0 done
numbers-before [] x rest low next are = are.0
numbers-before (y ∷ done) x rest low next are = (are.0, numbers-before done x rest (y.number.0 + 1) next are.1)

-- it is found
pub found-there : (done : List Kept) (x : Kept) (rest : List Kept) (low next : ℕ) → AreNumbers low next (done ++ x ∷ rest) → entry_of (done ++ x ∷ rest) x.number.0 ≡ Some x
found-there [] x rest low next are = let t = eq-true x.number.0 x.number.0 refl in rw t refl
found-there (y ∷ done) x rest low next are =
    let b : y.number.0 + 1 ≤ x.number.0 = numbers-bound done (y.number.0 + 1) x.number.0 (numbers-before done x rest (y.number.0 + 1) next are.1) in
    let f : (y.number.0 == x.number.0) ≡ false = eq-false y.number.0 x.number.0 (λ e. omega arith) in
    rw f (found-there done x rest (y.number.0 + 1) next are.1)

-- what is found among the first is found among all
pub found-before : (p : Kept → Bool) (done rest : List Kept) (k : Kept) → first_where p done ≡ Some k → first_where p (done ++ rest) ≡ Some k
found-before p [] rest k h = absurd (let none : ⊥ = cc in none)
found-before p (y ∷ done) rest k h = in_ (p y) h (found-before p done rest k) where
  in_ : (b : Bool) → cond b (Some y) (first_where p done) ≡ Some k → (first_where p done ≡ Some k → first_where p (done ++ rest) ≡ Some k) → cond b (Some y) (first_where p (done ++ rest)) ≡ Some k
  in_ true e more = e
  in_ false e more = more e

module _ (done : List Kept) (x : Kept) (rest : List Kept) (next : ℕ) (are : AreEntries (done ++ x ∷ rest) next) where
  before : AreNumbers 2 x.number.0 done
  before = numbers-before done x rest 2 next are.numbers

  -- its number is new, and so is its place
  pub number-new : entry_of done x.number.0 ≡ None
  number-new = numbers-outside done 2 x.number.0 x.number.0 before (inr (omega arith))

  pub place-new : (parent : Number) (name : List ℕ) → x.place ≡ Linked parent name → entry_at done parent.0 name ≡ None
  place-new parent name place = in_ (entry_at done parent.0 name) refl where
    in_ : (o : Option Kept) → entry_at done parent.0 name ≡ o → o ≡ None
    in_ None e = refl
    in_ (Some k) e =
        let all : entry_at (done ++ x ∷ rest) parent.0 name ≡ Some k = found-before (stands_at parent.0 name) done (x ∷ rest) k e in
        let it : k ≡ x = some-same (entry_at (done ++ x ∷ rest) parent.0 name) k x all (are.apart x.number.0 x parent name (found-there done x rest 2 next are.numbers) place) in
        let there : entry_of done x.number.0 ≡ Some k = subst (λ (z : Kept). entry_of done z.number.0 ≡ Some k) it (entry_of-first done 2 x.number.0 (stands_at parent.0 name) k before e) in
        absurd (some-none (entry_of done x.number.0) k there number-new)

  -- an index with it
  pub indexed-linked : (parent : Number) (name : List ℕ) → x.place ≡ Linked parent name → (old new : CountedIndex) → IsIndexed (place_of_number done) old →
      ((at : Standing) → IsCountedOf at old → at parent.0 name ≡ None → StandsNowhere at x.number.0 → IsCountedOf (inserted at parent.0 name x.number.0) new) →
      IsIndexed (place_of_number (done ++ x ∷ [])) new
  indexed-linked parent name place old new is put =
      indexed-gained (place_of_number done) (place_of_number (done ++ x ∷ [])) x.number.0 (added-elsewhere done x) old new parent.0 name
      (placed-none done x.number.0 number-new) (added-here done x number-new ∙ ap place_under place) (placed-free done parent.0 name (place-new parent name place)) is put

  -- and one that stands under no name
  pub indexed-unlinked : (file : FileId) → x.place ≡ Unlinked file → (index : CountedIndex) → IsIndexed (place_of_number done) index → IsIndexed (place_of_number (done ++ x ∷ [])) index
  indexed-unlinked file place index is = indexed-same (place_of_number done) (place_of_number (done ++ x ∷ [])) index (λ n. in_ n (eq-or n x.number.0)) is where
    in_ : (n : ℕ) → (n ≡ x.number.0) ⊎ (n ≡ x.number.0 → ⊥) → place_of_number (done ++ x ∷ []) n ≡ place_of_number done n
    in_ n (inl same) =
        ap (place_of_number (done ++ x ∷ [])) same ∙ added-here done x number-new ∙ ap place_under place ∙ sym (placed-none done x.number.0 number-new) ∙ ap (place_of_number done) (sym same)
    in_ n (inr other) = added-elsewhere done x n other

  -- what stands without it stands among all
  pub placed-among : (n dir : ℕ) (name : List ℕ) → place_of_number done n ≡ Some (dir, name) → place_of_number (done ++ x ∷ rest) n ≡ Some (dir, name)
  placed-among n dir name e =
      let w = placed-some done n dir name e in
      placed-linked (done ++ x ∷ rest) n w.0 (record { 0 = dir }) name (found-before (has_number n) done (x ∷ rest) w.0 w.1) w.2

-- slots, cut at one of them: its entry stands between those before it and those behind it
module _ (slots : List (ℕ × Option Entry)) (i : ℕ) (slot : ℕ × Option Entry) (within : i < length slots) (is : slot ≡ get_or slots i slot) where
  abbrev pub before_it : List Kept
  before_it = kept_from (take i slots)

  up_to_it : kept_from (take (i + 1) slots) ≡ before_it ++ kept_from (slot ∷ [])
  up_to_it = ap kept_from (take_more slots i slot within ∙ ap (λ (s : ℕ × Option Entry). take i slots ++ s ∷ []) (sym is)) ∙ kept-append (take i slots) (slot ∷ [])

  module _ (h : Entry) (full : slot.1 ≡ Some h) where
    pub kept-cut : kept_from slots ≡ before_it ++ kept_of slot.0 h ∷ kept_from (drop (suc i) slots)
    kept-cut =
        ap kept_from (cut slots i slot within is) ∙ kept-append (take i slots) (slot ∷ drop (suc i) slots)
        ∙ ap (λ (es : List Kept). before_it ++ es) (kept-front slot h (drop (suc i) slots) full)

    pub kept-taken : kept_from (take (i + 1) slots) ≡ before_it ++ kept_of slot.0 h ∷ []
    kept-taken = up_to_it ∙ ap (λ (es : List Kept). before_it ++ es) (kept-front slot h [] full)

    -- where each entry before it stands is known among all
    pub known-among : (next : ℕ) → AreEntries (kept_from slots) next → (index : CountedIndex) → (before : IsIndexed (place_of_number before_it) index) → AreKnown before.at (place_of_number (kept_from slots))
    known-among next are index before dir name n e =
        let parted = subst (λ (es : List Kept). AreEntries es next) kept-cut are in
        subst (λ (es : List Kept). place_of_number es n ≡ under dir name) (sym kept-cut)
        (placed-among before_it (kept_of slot.0 h) (kept_from (drop (suc i) slots)) next parted n dir name (before.known dir name n e))

  pub kept-none : slot.1 ≡ None → kept_from (take (i + 1) slots) ≡ before_it
  kept-none empty = up_to_it ∙ ap (λ (es : List Kept). before_it ++ es) (kept-past slot [] empty) ∙ ++-nil before_it where
    ++-nil : (es : List Kept) → es ++ [] ≡ es
    ++-nil [] = refl
    ++-nil (y ∷ es) = ap (λ (xs : List Kept). y ∷ xs) (++-nil es)

-- the slots of entries, read again
pub slots-are : (es : List Kept) (fs : List FileId) (low next : ℕ) → length fs ≡ length es → AreNumbers low next es → AreSlots low next (slots_of es fs)
slots-are [] fs low next len are = are
slots-are (y ∷ es) [] low next len are = absurd (omega (arith, len))
slots-are (y ∷ es) (f ∷ fs) low next len are = (are.0, slots-are es fs (y.number.0 + 1) next (omega (arith, len)) are.1)

pub slots-kept : (es : List Kept) (fs : List FileId) → length fs ≡ length es → kept_from (slots_of es fs) ≡ es
slots-kept [] fs len = refl
slots-kept (y ∷ es) [] len = absurd (omega (arith, len))
slots-kept (y ∷ es) (f ∷ fs) len = ap (λ (xs : List Kept). y ∷ xs) (slots-kept es fs (omega (arith, len)))

pub slots-files : (es : List Kept) (fs : List FileId) → files_from (slots_of es fs) ≡ by_number es fs
slots-files [] fs = refl
slots-files (y ∷ es) [] = refl
slots-files (y ∷ es) (f ∷ fs) = ap (λ (xs : List (ℕ × FileId)). (y.number.0, f) ∷ xs) (slots-files es fs)

pub slots-notes : (es : List Kept) (fs : List FileId) → notes_from (slots_of es fs) ≡ []
slots-notes [] fs = refl
slots-notes (y ∷ es) [] = refl
slots-notes (y ∷ es) (f ∷ fs) = slots-notes es fs

-- what holds of each holds of the entry of a number
pub each-entry : (es : List Kept) (P : Kept → Type 0) (n : ℕ) (kept : Kept) → AllByRecursion P es → entry_of es n ≡ Some kept → P kept
each-entry [] P n kept all e = absurd (let none : ⊥ = cc in none)
each-entry (y ∷ es) P n kept all e = in_ (y.number.0 == n) e (each-entry es P n kept all.1) where
  in_ : (b : Bool) → cond b (Some y) (entry_of es n) ≡ Some kept → (entry_of es n ≡ Some kept → P kept) → P kept
  in_ true h more = let same : y ≡ kept = cc in subst P same all.0
  in_ false h more = more h
