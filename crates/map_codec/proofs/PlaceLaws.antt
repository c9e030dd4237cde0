-- Where the entry of a number stands among entries that rise.
use Rattle.std.proofs.Common.{All, ◌≡◌, ◌<◌, ◌≤◌, ℕ, suc, ◌+◌, Bool, true, false, cond, List, [], ◌∷◌, ◌++◌, length, take, drop, get_or, Option, Some, None, Result, Ok, Err, refl, sym, ap, subst, ◌∙◌, inl, inr, arith}
use Rattle.std.specs.Prelude.{◌==◌, MatchOption}
use Rattle.std.specs.Result.{result_ok}
use Rattle.std.specs.List.{AllByRecursion}
use Rattle.std.specs.List.Sorted.{IsSearchInRange, IsBinarySearchResult, IsNonDecreasingBy}
use Rattle.std.specs.Ordering.{nat_cmp, ordering_index}
use Rattle.std.specs.declared.cmp.Ordering.TheVariants.{Less, Equal, Greater}
use Rattle.std.proofs.lemmas.Bool.{and_parts, cases_lt}
use Rattle.std.proofs.lemmas.Bool.Decides.{nat_tests}
use Rattle.std.proofs.lemmas.List.Elements.{recursion_from_All}
use Rattle.std.proofs.lemmas.Option.{slice_get_cases}
use Rattle.entry_table.specs.Entries.{AreNumbers, has_number, entry_of}
use Rattle.entry_table.specs.declared.kept.Kept.{Kept}
use Rattle.entry_table.proofs.EntryLemmas.{numbers-rise}
use Rattle.entry_table.proofs.EntryRuns.{cut, found-there}
use Rattle.map_image.specs.Fit.{rises, entry_follows}
use Rattle.map_codec.specs.Named.{IsPlaceOf}

-- the lower bound of the numbers after this entry
abbrev pub low_after : Option Kept → ℕ
low_after None = 2
low_after (Some last) = last.number.0 + 1

follows_low : (last : Option Kept) (kept : Kept) → entry_follows last kept ≡ true → low_after last ≤ kept.number.0
follows_low None kept e = grind (arith, nat_tests)
follows_low (Some last) kept e = grind (arith, nat_tests)

-- entries that rise have numbers up to some end
pub numbers_behind : (entries : List Kept) (last : Option Kept) → rises entry_follows last entries ≡ true → (next : ℕ) × AreNumbers (low_after last) next entries
numbers_behind [] last rise = (low_after last, omega arith)
numbers_behind (kept ∷ entries) last rise =
    let parts = and_parts (entry_follows last kept) (rises entry_follows (Some kept) entries) rise in
    let more = numbers_behind entries (Some kept) parts.1 in
    (more.0, (follows_low last kept parts.0, more.1))

-- an entry at a place is found by its number
pub entry_there : (entries : List Kept) (i : ℕ) (kept : Kept) → rises entry_follows None entries ≡ true → i < length entries → kept ≡ get_or entries i kept → entry_of entries kept.number.0 ≡ Some kept
entry_there entries i kept rise lt is =
    let are = numbers_behind entries None rise in
    let parts : entries ≡ take i entries ++ kept ∷ drop (suc i) entries = cut entries i kept lt is in
    let whole : AreNumbers 2 are.0 (take i entries ++ kept ∷ drop (suc i) entries) = subst (AreNumbers 2 are.0) parts are.1 in
    ap (λ (es : List Kept). entry_of es kept.number.0) parts ∙ found-there (take i entries) kept (drop (suc i) entries) 2 are.0 whole

-- the comparisons with a number rise
compared_rise : (entries : List Kept) (n : ℕ) → rises entry_follows None entries ≡ true → IsNonDecreasingBy (λ (kept : Kept). ordering_index (nat_cmp kept.number.0 n)) entries
compared_rise entries n rise i j d le lt = elim (cases_lt i j) [
  | inl before ↦
      let are = numbers_behind entries None rise in
      let up = numbers-rise entries 2 are.0 are.1 i j d before lt in
      let low : (get_or entries i d).number.0 ≤ (get_or entries j d).number.0 = omega (arith, up) in
      index_rises _ _ n low
  | inr after ↦
      let same : i ≡ j = omega (arith, le, after) in
      let low : (get_or entries i d).number.0 ≤ (get_or entries j d).number.0 = subst (λ (k : ℕ). (get_or entries i d).number.0 ≤ (get_or entries k d).number.0) same (omega arith) in
      index_rises _ _ n low
] where
  index_rises : (a b n : ℕ) → a ≤ b → ordering_index (nat_cmp a n) ≤ ordering_index (nat_cmp b n)
  index_rises a b n le = grind (arith, nat_tests)

equal_is : (a n : ℕ) → nat_cmp a n ≡ Equal → a ≡ n
equal_is a n e = grind (arith, nat_tests)

less_is_other : (a n : ℕ) → nat_cmp a n ≡ Less → (a == n) ≡ false
less_is_other a n e = grind (arith, nat_tests)

greater_is_other : (a n : ℕ) → nat_cmp a n ≡ Greater → (a == n) ≡ false
greater_is_other a n e = grind (arith, nat_tests)

-- a number that no entry has
absent : (entries : List Kept) (n : ℕ) → AllByRecursion (λ (kept : Kept). has_number n kept ≡ false) entries → entry_of entries n ≡ None
absent [] n none = refl
absent (kept ∷ entries) n none = ap (λ (b : Bool). cond b (Some kept) (entry_of entries n)) none.0 ∙ absent entries n none.1

found_at : (entries : List Kept) (n i : ℕ) → rises entry_follows None entries ≡ true → i < length entries → ((d : Kept) → nat_cmp (get_or entries i d).number.0 n ≡ Equal) → IsPlaceOf entries n i
found_at entries n i rise lt equal = elim (slice_get_cases entries i).1 [
  | inl there ↦
      let kept = there.0 in
      let number : kept.number.0 ≡ n = ap (λ (k : Kept). k.number.0) (sym there.3) ∙ equal_is _ n (equal kept) in
      record {
        kept = kept;
        stands = there.2;
        entry = subst (λ (m : ℕ). entry_of entries m ≡ Some kept) number (entry_there entries i kept rise lt (sym there.3));
      }
  | inr past ↦ absurd (omega (arith, past.0, lt))
]

-- what a search by number tells
pub searched_place : (entries : List Kept) (n : ℕ) (r : Result ℕ ℕ) → rises entry_follows None entries ≡ true → IsSearchInRange r (length entries) → IsBinarySearchResult (λ (kept : Kept). nat_cmp kept.number.0 n) entries r
    → MatchOption (result_ok r) (entry_of entries n ≡ None) (IsPlaceOf entries n)
searched_place entries n (Ok i) rise within equal = found_at entries n i rise within equal
searched_place entries n (Err i) rise within parted =
    let parts = parted (compared_rise entries n rise) in
    let others : All (λ (kept : Kept). has_number n kept ≡ false) entries = λ k d lt. elim (cases_lt k i) [
      | inl under ↦ less_is_other _ n (parts.0 k d (omega arith) under)
      | inr over ↦ greater_is_other _ n (parts.1 k d over lt)
    ] in
    absent entries n (recursion_from_All (λ (kept : Kept). has_number n kept ≡ false) entries others)
