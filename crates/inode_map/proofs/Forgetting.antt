-- What becomes of a forget, by the count and by what stands in the directory.
use Rattle.std.proofs.Common.{◌≡◌, ℕ, ◌-◌, ◌<◌, ◌≤◌, Bool, true, false, cond, length, not, ◌||◌, List, Option, Some, None, refl, sym, ap, ◌∙◌, arith}
use Rattle.std.proofs.lemmas.Bool.{not-true, or_parts}
use Rattle.std.specs.Prelude.{◌==◌, nat_lt, if◌then◌else◌}
use Rattle.std.specs.List.{list_any}
use Rattle.std.specs.Option.{option_map, option_map_or}
use Rattle.std.proofs.lemmas.Bool.Decides.{nat_tests}
use Rattle.eden_base.proofs.NumberTests.{false-ne}
use Rattle.entry_table.specs.Entries.{has_number, entry_of, count_of, is_kid_of, is_of_use, is_bad_item, lowered, AreNumbers}
use Rattle.inode_map.specs.InodeMap.{MapState, is_useless, left_of_use, forgot, forgotten, loaded_number, left_with}
use Rattle.inode_map.specs.declared.inode_map.Forgot.TheVariants.{Lowered, Dropped, Bad, Root}
use Rattle.entry_table.specs.declared.kept.Kept.{Kept}
use Rattle.entry_table.specs.EntryPlaces.{AreOfUseBut}
use Rattle.entry_table.proofs.Counting.{less, less-keeps, counted-entry, good-item}
use Rattle.entry_table.proofs.Changing.{lowered-of_use, kids-changed, count_of-entry}
use Rattle.entry_table.proofs.EntryLemmas.{changed-same, entry_of-number, numbers-changed}
use Rattle.inode_map.proofs.Giving.{AreKept}
use Rattle.entry_table.specs.Table.{AreOfKept, file_number}
use Rattle.inode_map.proofs.Keeping.{left_with-all}
use Rattle.inode_map.proofs.Striking.{left_of_use-all}
use Rattle.inode_map.proofs.Walking.{all-of_use, struck-keeps}

-- whether the number is of use once it is counted less
pub lowered-useless : (es : List Kept) (n k : ℕ) → (k ≡ 0 → ⊥) → k ≤ count_of es n → is_useless (lowered es n k) n ≡ not (nat_lt 0 (count_of es n - k) || list_any (is_kid_of n) es)
lowered-useless es n k some few =
    let e = counted-entry es n (let s : k ≡ 0 → ⊥ = some in omega arith) in
    let there : entry_of (lowered es n k) n ≡ Some (less k e.0) = changed-same es n (less k) (less-keeps k).number ∙ ap (option_map (less k)) e.1 in
    let kids : list_any (is_kid_of n) (lowered es n k) ≡ list_any (is_kid_of n) es = kids-changed es n n (less k) (less-keeps k) in
    ap (λ (o : Option Kept). option_map_or (λ (kept : Kept). not (is_of_use (lowered es n k) kept)) o false) there
    ∙ ap (λ (m : ℕ). not (nat_lt 0 (e.0.count - k) || list_any (is_kid_of m) (lowered es n k))) (entry_of-number es n e.0 e.1)
    ∙ ap (λ b. not (nat_lt 0 (e.0.count - k) || b)) kids
    ∙ ap (λ (m : ℕ). not (nat_lt 0 (m - k) || list_any (is_kid_of n) es)) (sym (count_of-entry es n e.0 e.1))

-- so what becomes of the forget
pub forgot-good : (map : MapState) (n k : ℕ) (b c : Bool) → (n == 1) ≡ false → (k ≡ 0 → ⊥) → k ≤ count_of map.entries n → nat_lt 0 (count_of map.entries n - k) ≡ b → list_any (is_kid_of n) map.entries ≡ c →
    forgot map n k ≡ cond (not (b || c)) Dropped Lowered
forgot-good map n k b c other some few counted kids =
    let good : is_bad_item map.entries n k ≡ false = good-item map.entries n k some few in
    let useless : is_useless (lowered map.entries n k) n ≡ not (b || c) = lowered-useless map.entries n k some few ∙ (ap (λ x. not (x || list_any (is_kid_of n) map.entries)) counted ∙ ap (λ y. not (b || y)) kids) in
    rw (other, good, useless) refl

-- what is no bad item is counted as often
pub good-parts : (es : List Kept) (n k : ℕ) → is_bad_item es n k ≡ false → (k ≡ 0 → ⊥) × (k ≤ count_of es n)
good-parts es n k h = in_ (k == 0) (nat_lt (count_of es n) k) refl refl h where
  in_ : (a b : Bool) → (k == 0) ≡ a → nat_lt (count_of es n) k ≡ b → (a || b) ≡ false → (k ≡ 0 → ⊥) × (k ≤ count_of es n)
  in_ true b e f g = absurd (let none : ⊥ = cc in none)
  in_ false true e f g = absurd (let none : ⊥ = cc in none)
  in_ false false e f g = (false-ne k 0 e, let l : k ≤ count_of es n = grind (arith, nat_tests) in l)

-- what the answer says of the forget
pub record IsTold (map : MapState) (n k : ℕ) (is : Bool) : Type 0 where
  pub other : (n == 1) ≡ false
  pub good : is_bad_item map.entries n k ≡ false
  pub useless : is_useless (lowered map.entries n k) n ≡ is

pub told-dropped : (map : MapState) (n k : ℕ) → Dropped ≡ forgot map n k → IsTold map n k true
told-dropped map n k h = in_ (n == 1) (is_bad_item map.entries n k) (is_useless (lowered map.entries n k) n) refl refl refl h where
  in_ : (a b c : Bool) → (n == 1) ≡ a → is_bad_item map.entries n k ≡ b → is_useless (lowered map.entries n k) n ≡ c →
      Dropped ≡ (if a then Root else if b then Bad else if c then Dropped else Lowered) → IsTold map n k true
  in_ true b c e f g h' = absurd (let none : ⊥ = cc in none)
  in_ false true c e f g h' = absurd (let none : ⊥ = cc in none)
  in_ false false true e f g h' = record { other = e; good = f; useless = g }
  in_ false false false e f g h' = absurd (let none : ⊥ = cc in none)

-- and from what it is told
pub told-by : (map : MapState) (n k : ℕ) (b c : Bool) → (n == 1) ≡ false → is_bad_item map.entries n k ≡ false → nat_lt 0 (count_of map.entries n - k) ≡ b → list_any (is_kid_of n) map.entries ≡ c → IsTold map n k (not (b || c))
told-by map n k b c other good counted kids =
    let parts = good-parts map.entries n k good in
    record { other = other; good = good; useless = lowered-useless map.entries n k parts.0 parts.1 ∙ (ap (λ x. not (x || list_any (is_kid_of n) map.entries)) counted ∙ ap (λ y. not (b || y)) kids) }

pub forgot-told : (map : MapState) (n k : ℕ) (is : Bool) → IsTold map n k is → forgot map n k ≡ cond is Dropped Lowered
forgot-told map n k is told = let other : (n == 1) ≡ false = told.other in let good : is_bad_item map.entries n k ≡ false = told.good in let useless : is_useless (lowered map.entries n k) n ≡ is = told.useless in rw (other, good, useless) refl

pub counted-more : (count k : ℕ) → k < count → nat_lt 0 (count - k) ≡ true
counted-more count k h = grind (arith, nat_tests)

pub counted-all : (count k : ℕ) → count ≤ k → nat_lt 0 (count - k) ≡ false
counted-all count k h = grind (arith, nat_tests)

-- the entries after they were counted less
pub lowered-numbers : (es : List Kept) (next n k : ℕ) → AreNumbers 2 next es → AreNumbers 2 next (lowered es n k)
lowered-numbers es next n k are = numbers-changed es 2 next (has_number n) (less k) (less-keeps k).number are

pub lowered-others : (es : List Kept) (n k : ℕ) → AreOfUseBut None es → AreOfUseBut (Some n) (lowered es n k)
lowered-others es n k useful = lowered-of_use es n (less k) (less-keeps k) useful

-- if the number is still of use, so is every entry
pub lowered-kept : (map : MapState) (n k : ℕ) → AreKept map.next map.entries → IsTold map n k false → AreKept map.next (lowered map.entries n k)
lowered-kept map n k are told = record {
  numbers = lowered-numbers map.entries map.next n k are.numbers;
  of_use = all-of_use (lowered map.entries n k) n told.useless (lowered-others map.entries n k are.of_use);
}

-- what is left of use
pub struck-kept : (es : List Kept) (next n k : ℕ) → AreKept next es → AreKept next (left_of_use (lowered es n k))
struck-kept es next n k are = let s = struck-keeps (λ xs. Unit {0}) 2 next (λ xs m numbers useless here. tt) (length (lowered es n k)) (Some n) (lowered es n k) (omega arith)
    (lowered-numbers es next n k are.numbers) (lowered-others es n k are.of_use) tt in
    record { numbers = s.numbers; of_use = s.of_use }

-- what a forget would drop has no kids
pub dropped-kids : (map : MapState) (n k : ℕ) → Dropped ≡ forgot map n k → list_any (is_kid_of n) map.entries ≡ false
dropped-kids map n k h =
    let told = told-dropped map n k h in
    let parts = good-parts map.entries n k told.good in
    let useless = not-true (nat_lt 0 (count_of map.entries n - k) || list_any (is_kid_of n) map.entries) (sym (lowered-useless map.entries n k parts.0 parts.1) ∙ told.useless) in
    (or_parts (nat_lt 0 (count_of map.entries n - k)) (list_any (is_kid_of n) map.entries) useless).1

-- where the number is of use still, none leaves
pub forgotten-lowered : (map : MapState) (n k : ℕ) → AreKept map.next map.entries → AreOfKept loaded_number (lowered map.entries n k) map.loaded → AreOfKept file_number (lowered map.entries n k) map.remembered →
    IsTold map n k false → record map { entries = lowered map.entries n k } ≡ forgotten map n k
forgotten-lowered map n k are loaded files told =
    let kept = lowered-kept map n k are told in
    let same : left_of_use (lowered map.entries n k) ≡ lowered map.entries n k = left_of_use-all (lowered map.entries n k) 2 map.next kept.numbers kept.of_use in
    let other : (n == 1) ≡ false = told.other in let good : is_bad_item map.entries n k ≡ false = told.good in
    rw (other, good) (sym (ap (λ (es : List Kept). left_with es map) same ∙ left_with-all (lowered map.entries n k) map loaded files))
