-- The entries at places, and those of their directories.
use Rattle.std.proofs.Common.{◌≡◌, ◌<◌, ◌≤◌, ◌+◌, ◌&&◌, drop, drop-cons, ℕ, suc, zero, Bool, true, List, [], ◌∷◌, ◌++◌, length, length-append, get_or, Option, Some, None, sym, ap, subst, ◌∙◌, inl, inr, ◌⊎◌, arith}
use Rattle.std.specs.Prelude.{slice_get}
use Rattle.std.specs.List.{list_all}
use Rattle.std.specs.Option.{option_map_or}
use Rattle.std.proofs.Math.Seq.{get_or-append_seam}
use Rattle.std.proofs.lemmas.Bool.{cases_lt}
use Rattle.std.proofs.lemmas.List.{get_or_append_left}
use Rattle.std.proofs.lemmas.Option.{slice_get-get_or, slice_get_within, slice_get_cases, get_or_from_slice_get}
use Rattle.eden_base.specs.declared.number.Number.{Number}
use Rattle.entry_table.specs.Entries.{AreNumbers, entry_of, number_of_kept}
use Rattle.entry_table.specs.declared.kept.Kept.{Kept}
use Rattle.entry_table.proofs.EntryLemmas.{entry_of-number}
use Rattle.map_image.specs.Fit.{rises, entry_follows}
use Rattle.map_codec.specs.Named.{IsPlaceOf, number_at}
use Rattle.map_codec.proofs.PlaceLaws.{entry_there, numbers_behind}

-- the members at one place of two lists belong together
abbrev pub IsEachAt : {X Y : Type 0} → (X → Y → Type 0) → List X → List Y → Type 0
IsEachAt {X} {Y} R xs ys = (i : ℕ) (x : X) (y : Y) → slice_get xs i ≡ Some x → slice_get ys i ≡ Some y → R x y

-- an empty second list belongs to any first list
pub each_of_none : {X Y : Type 0} (R : X → Y → Type 0) (xs : List X) (ys : List Y) → ys ≡ [] → IsEachAt R xs ys
each_of_none {X} {Y} R xs ys none = λ i x y here there. absurd (let no : ⊥ = cc in no)

-- with one more member in the second list, which belongs to its partner, all still belong together
pub each_pushed : {X Y : Type 0} (R : X → Y → Type 0) (xs : List X) (ys : List Y) (y : Y) → ((x : X) → slice_get xs (length ys) ≡ Some x → R x y) → IsEachAt R xs ys → IsEachAt R xs (ys ++ y ∷ [])
each_pushed {X} {Y} R xs ys y last each = λ i x z here there. in_ i x z here there (cases_lt i (length ys)) where
  in_ : (i : ℕ) (x : X) (z : Y) → slice_get xs i ≡ Some x → slice_get (ys ++ y ∷ []) i ≡ Some z → (i < length ys) ⊎ (length ys ≤ i) → R x z
  in_ i x z here there (inl before) =
      let read : get_or ys i z ≡ z = sym (get_or_append_left ys (y ∷ []) z i before) ∙ get_or_from_slice_get (ys ++ y ∷ []) i z z there in
      each i x z here (slice_get-get_or ys i z before ∙ ap Some read)
  in_ i x z here there (inr end) =
      let within : i < length (ys ++ y ∷ []) = slice_get_within (ys ++ y ∷ []) i z there in
      let same : i ≡ length ys = omega (arith, within, length-append ys (y ∷ []), end) in
      let read : get_or (ys ++ y ∷ []) (length ys) z ≡ z = ap (λ (k : ℕ). get_or (ys ++ y ∷ []) k z) (sym same) ∙ get_or_from_slice_get (ys ++ y ∷ []) i z z there in
      let it : y ≡ z = sym (get_or-append_seam ys y [] z) ∙ read in
      subst (R x) it (last x (ap (slice_get xs) (sym same) ∙ here))

-- the number of the entry that stands there
pub number_there : (entries : List Kept) (i : ℕ) (kept : Kept) → slice_get entries i ≡ Some kept → number_at entries i ≡ kept.number
number_there entries i kept is = ap (λ (o : Option Kept). option_map_or number_of_kept o (record { 0 = 0 })) is

-- the entry at a place is the one of its number
pub place_itself : (entries : List Kept) (i : ℕ) → rises entry_follows None entries ≡ true → i < length entries → IsPlaceOf entries (number_at entries i).0 i
place_itself entries i rise lt = elim (slice_get_cases entries i).1 [
  | inl there ↦ record {
    kept = there.0;
    stands = there.2;
    entry = subst (λ (n : Number). entry_of entries n.0 ≡ Some there.0) (sym (number_there entries i there.0 there.2)) (entry_there entries i there.0 rise lt (sym there.3));
  }
  | inr past ↦ absurd (omega (arith, past.0, lt))
]

-- the entry of a number stands at an index if its number, read there, is this one
pub place_read : (entries : List Kept) (n i : ℕ) (kept : Kept) → rises entry_follows None entries ≡ true → i < length entries → kept ≡ get_or entries i kept → kept.number.0 ≡ n → IsPlaceOf entries n i
place_read entries n i kept rise lt is same = record {
  kept = kept;
  stands = slice_get-get_or entries i kept lt ∙ ap Some (sym is);
  entry = subst (λ (m : ℕ). entry_of entries m ≡ Some kept) same (entry_there entries i kept rise lt is);
}

-- the number of a place's entry
pub place_number : (entries : List Kept) (n i : ℕ) → IsPlaceOf entries n i → n ≡ (number_at entries i).0
place_number entries n i at = sym (entry_of-number entries n at.kept at.entry) ∙ ap (λ (m : Number). m.0) (sym (number_there entries i at.kept at.stands))

pub place_inside : (entries : List Kept) (n i : ℕ) → IsPlaceOf entries n i → i < length entries
place_inside entries n i at = slice_get_within entries i at.kept at.stands

low_there : (entries : List Kept) (low next i : ℕ) (kept : Kept) → AreNumbers low next entries → slice_get entries i ≡ Some kept → low ≤ kept.number.0
low_there [] low next i kept are is = absurd (cc)
low_there (x ∷ entries) low next zero kept are is = let it : x ≡ kept = cc in subst (λ (k : Kept). low ≤ k.number.0) it are.0
low_there (x ∷ entries) low next (suc i) kept are is = let a = are.0 in omega (arith, a, low_there entries (x.number.0 + 1) next i kept are.1 is)

-- the number of an entry is not the root's
pub not_root : (entries : List Kept) (n i : ℕ) → rises entry_follows None entries ≡ true → IsPlaceOf entries n i → n ≡ 1 → ⊥
not_root entries n i rise at one =
    let are = numbers_behind entries None rise in
    let low : 2 ≤ at.kept.number.0 = low_there entries 2 are.0 i at.kept are.1 at.stands in
    let same : at.kept.number.0 ≡ n = entry_of-number entries n at.kept at.entry in
    omega (arith, low, same, one)

-- if the entry at an index has a directory, all from there on have one exactly if all after it have one
pub had_there : (p : Kept → Bool) (entries : List Kept) (i : ℕ) (kept : Kept) → i < length entries → kept ≡ get_or entries i kept → p kept ≡ true → list_all p (drop i entries) ≡ list_all p entries → list_all p (drop (i + 1) entries) ≡ list_all p entries
had_there p entries i kept lt is has so_far =
    let here : p (get_or entries i kept) ≡ true = ap p (sym is) ∙ has in
    let next : suc i ≡ i + 1 = omega arith in
    let rest = sym (ap (list_all p) (drop-cons entries i kept lt) ∙ ap (λ (b : Bool). b && list_all p (drop (suc i) entries)) here) ∙ so_far in
    subst (λ (n : ℕ). list_all p (drop n entries) ≡ list_all p entries) next rest
