-- Lemmas on the numbers that a daemon keeps, which rise: those above a number, one after another.
use Rattle.std.proofs.Common.{◌≡◌, ℕ, ◌+◌, ◌<◌, ◌≤◌, Bool, true, false, List, [], ◌∷◌, Option, Some, None, refl, ap, subst, sym, ◌∙◌, arith, if◌then◌else◌}
use Rattle.std.specs.Option.{option_map, option_map_or, option_copied}
use Rattle.std.specs.Borrow.{Bor}
use Rattle.std.proofs.lemmas.Bool.Decides.{nat_tests}
use Rattle.eden_base.specs.First.{first_where}
use Rattle.eden_base.specs.declared.number.Number.{Number}
use Rattle.eden_base.specs.declared.place.Place.{Place}
use Rattle.entry_table.specs.Entries.{AreNumbers, is_above, has_number, entry_of, number_after, number_of_kept, place_of_kept, count_of}
use Rattle.entry_table.specs.declared.kept.Kept.{Kept}

-- the entries above a number
abbrev pub above : ℕ → List Kept → List Kept
above n [] = []
above n (kept ∷ entries) = if is_above n kept then kept ∷ entries else above n entries

is_above-yes : (n : ℕ) (kept : Kept) → n < kept.number.0 → is_above n kept ≡ true
is_above-yes n kept low = grind (arith, nat_tests)

is_above-no : (n : ℕ) (kept : Kept) → kept.number.0 ≤ n → is_above n kept ≡ false
is_above-no n kept high = grind (arith, nat_tests)

above-first : (n : ℕ) (kept : Kept) (entries : List Kept) → n < kept.number.0 → above n (kept ∷ entries) ≡ kept ∷ entries
above-first n kept entries low = ap (λ (b : Bool). if b then kept ∷ entries else above n entries) (is_above-yes n kept low)

above-later : (n : ℕ) (kept : Kept) (entries : List Kept) → kept.number.0 ≤ n → above n (kept ∷ entries) ≡ above n entries
above-later n kept entries high = ap (λ (b : Bool). if b then kept ∷ entries else above n entries) (is_above-no n kept high)

-- all entries are above a number that is below the lowest
pub above-all : (low next n : ℕ) (entries : List Kept) → AreNumbers low next entries → n < low → above n entries ≡ entries
above-all low next n [] are h = refl
above-all low next n (kept ∷ entries) are h = above-first n kept entries (let least : low ≤ kept.number.0 = are.0 in omega arith)

first_above-yes : (n : ℕ) (kept : Kept) (entries : List Kept) → n < kept.number.0 → first_where (is_above n) (kept ∷ entries) ≡ Some kept
first_above-yes n kept entries low = ap (λ (b : Bool). if b then Some kept else first_where (is_above n) entries) (is_above-yes n kept low)

first_above-no : (n : ℕ) (kept : Kept) (entries : List Kept) → kept.number.0 ≤ n → first_where (is_above n) (kept ∷ entries) ≡ first_where (is_above n) entries
first_above-no n kept entries high = ap (λ (b : Bool). if b then Some kept else first_where (is_above n) entries) (is_above-no n kept high)

has_number-yes : (kept : Kept) → has_number kept.number.0 kept ≡ true
has_number-yes kept = grind (arith, nat_tests)

has_number-no : (m : ℕ) (kept : Kept) → kept.number.0 < m → has_number m kept ≡ false
has_number-no m kept low = grind (arith, nat_tests)

entry-first : (kept : Kept) (entries : List Kept) → entry_of (kept ∷ entries) kept.number.0 ≡ Some kept
entry-first kept entries = ap (λ (b : Bool). if b then Some kept else entry_of entries kept.number.0) (has_number-yes kept)

entry-later : (m : ℕ) (kept : Kept) (entries : List Kept) → kept.number.0 < m → entry_of (kept ∷ entries) m ≡ entry_of entries m
entry-later m kept entries low = ap (λ (b : Bool). if b then Some kept else entry_of entries m) (has_number-no m kept low)

low-le-next : (low next : ℕ) (entries : List Kept) → AreNumbers low next entries → low ≤ next
low-le-next low next [] are = are
low-le-next low next (kept ∷ entries) are =
    let least : low ≤ kept.number.0 = are.0 in
    let more : kept.number.0 + 1 ≤ next = low-le-next (kept.number.0 + 1) next entries are.1 in
    omega arith

-- this is the least number above another, with its entry
pub record IsNext (next n : ℕ) (entries : List Kept) (m : Number) (kept : Kept) : Type 0 where
  pub higher : n < m.0
  pub below : m.0 < next
  pub number_is : kept.number ≡ m
  pub entry : entry_of entries m.0 ≡ Some kept
  pub goes_on : above n entries ≡ kept ∷ above m.0 entries

next-first : (next n : ℕ) (kept : Kept) (entries : List Kept) → AreNumbers (kept.number.0 + 1) next entries → n < kept.number.0 → IsNext next n (kept ∷ entries) kept.number kept
next-first next n kept entries are low = record {
  higher = low;
  below = let more : kept.number.0 + 1 ≤ next = low-le-next (kept.number.0 + 1) next entries are in omega arith;
  number_is = refl;
  entry = entry-first kept entries;
  goes_on = above-first n kept entries low
      ∙ ap (λ (es : List Kept). kept ∷ es) (sym (above-later kept.number.0 kept entries (omega arith) ∙ above-all (kept.number.0 + 1) next kept.number.0 entries are (omega arith)));
}

next-later : (next n : ℕ) (kept : Kept) (entries : List Kept) (m : Number) (one : Kept) → kept.number.0 ≤ n → IsNext next n entries m one → IsNext next n (kept ∷ entries) m one
next-later next n kept entries m one high i =
    let lower : kept.number.0 < m.0 = (let up : n < m.0 = i.higher in omega arith) in
    record {
      higher = i.higher;
      below = i.below;
      number_is = i.number_is;
      entry = entry-later m.0 kept entries lower ∙ i.entry;
      goes_on = above-later n kept entries high ∙ i.goes_on ∙ ap (λ (es : List Kept). one ∷ es) (sym (above-later m.0 kept entries (omega (arith, lower))));
    }

-- the least number above another, by whether the first entry is above it
next-by : (next n : ℕ) (kept : Kept) (entries : List Kept) (m : Number) (b : Bool) → is_above n kept ≡ b → AreNumbers (kept.number.0 + 1) next entries →
    number_after (kept ∷ entries) n ≡ Some m → (number_after entries n ≡ Some m → (one : Kept) × IsNext next n entries m one) →
    (one : Kept) × IsNext next n (kept ∷ entries) m one
next-by next n kept entries m true is are e rest =
    let less : n < kept.number.0 = grind (arith, nat_tests) in
    let first : Some kept.number ≡ Some m = sym (ap (option_map number_of_kept) (first_above-yes n kept entries less)) ∙ e in
    let same : kept.number ≡ m = cc in
    (kept, subst (λ (number : Number). IsNext next n (kept ∷ entries) number kept) same (next-first next n kept entries are less))
next-by next n kept entries m false is are e rest =
    let high : kept.number.0 ≤ n = grind (arith, nat_tests) in
    let later : number_after entries n ≡ Some m = sym (ap (option_map number_of_kept) (first_above-no n kept entries high)) ∙ e in
    let (one, i) = rest later in
    (one, next-later next n kept entries m one high i)

-- if there is a number above another, the entries above begin with the least one's
pub next-is : (low next n : ℕ) (entries : List Kept) (m : Number) → AreNumbers low next entries → number_after entries n ≡ Some m → (kept : Kept) × IsNext next n entries m kept
next-is low next n [] m are e = let none : ⊥ = cc in absurd none
next-is low next n (kept ∷ entries) m are e = next-by next n kept entries m (is_above n kept) refl are.1 e (next-is (kept.number.0 + 1) next n entries m are.1)

none-by : (n : ℕ) (kept : Kept) (entries : List Kept) (b : Bool) → is_above n kept ≡ b → number_after (kept ∷ entries) n ≡ None → (number_after entries n ≡ None → above n entries ≡ []) → above n (kept ∷ entries) ≡ []
none-by n kept entries true is e rest =
    let less : n < kept.number.0 = grind (arith, nat_tests) in
    let first : Some kept.number ≡ None = sym (ap (option_map number_of_kept) (first_above-yes n kept entries less)) ∙ e in
    let none : ⊥ = cc in
    absurd none
none-by n kept entries false is e rest =
    let high : kept.number.0 ≤ n = grind (arith, nat_tests) in
    above-later n kept entries high ∙ rest (sym (ap (option_map number_of_kept) (first_above-no n kept entries high)) ∙ e)

-- if there is no number above another, no entries are above
pub none-above : (n : ℕ) (entries : List Kept) → number_after entries n ≡ None → above n entries ≡ []
none-above n [] e = refl
none-above n (kept ∷ entries) e = none-by n kept entries (is_above n kept) refl e (none-above n entries)

-- a number that has an entry has a place
pub no_entry : (entries : List Kept) (m : ℕ) (kept : Kept) (place : Option (Bor Place)) → entry_of entries m ≡ Some kept → option_copied place ≡ option_map place_of_kept (entry_of entries m) → place ≡ None → ⊥
no_entry entries m kept place entry is none =
    let placed : Some kept.place ≡ None = sym (ap (option_map place_of_kept) entry) ∙ sym is ∙ ap option_copied none in
    cc

-- the entry of a number is what was told of it
pub kept-is : (next n : ℕ) (entries : List Kept) (m : Number) (kept : Kept) (told : Option (Bor Place)) (place : Bor Place) (count : ℕ) → IsNext next n entries m kept → option_copied told ≡ option_map place_of_kept (entry_of entries m.0) → told ≡ Some place → count ≡ count_of entries m.0 → kept ≡ record { number = m; place = place.now; count = count }
kept-is next n entries m kept told place count i is some counted =
    let placed : Some kept.place ≡ Some place.now = sym (ap (option_map place_of_kept) i.entry) ∙ sym is ∙ ap option_copied some in
    let place_is : kept.place ≡ place.now = cc in
    let count_is : kept.count ≡ count = sym (counted ∙ ap (λ (o : Option Kept). option_map_or (λ (k : Kept). k.count) o 0) i.entry) in
    ap (λ (number : Number). record { number = number; place = kept.place; count = kept.count }) i.number_is
    ∙ ap (λ (p : Place). record { number = m; place = p; count = kept.count }) place_is
    ∙ ap (λ (k : ℕ). record { number = m; place = place.now; count = k }) count_is
