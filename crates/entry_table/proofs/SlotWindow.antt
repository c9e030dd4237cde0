-- Between which indexes the slots up to a number end, and how many they are.
use Rattle.std.proofs.Common.{◌≡◌, ℕ, ◌+◌, ◌-◌, ◌<◌, ◌≤◌, Bool, true, false, List, [], ◌∷◌, length, length-drop, take, drop, get_or, Option, Some, refl, ap, ◌∙◌, inl, inr, ◌⊎◌, subst, arith}
use Rattle.std.specs.Prelude.{nat_lt, slice_get}
use Rattle.std.specs.List.{AllWithin}
use Rattle.std.specs.List.Sorted.{IsNonDecreasingBy, IsPartitionPoint}
use Rattle.std.proofs.lemmas.Bool.Decides.{nat_tests}
use Rattle.std.proofs.lemmas.List.{get_or-drop, get_or-take, length-take-le}
use Rattle.std.proofs.lemmas.Option.{get_or_from_slice_get}
use Rattle.entry_table.proofs.SlotSearch.{slots-apart}
use Rattle.entry_table.specs.Slots.{AreSlots}
use Rattle.entry_table.specs.declared.kept.Entry.{Entry}

-- the number is at least that of a slot that stands so far below the last
pub before-last : (es : List (ℕ × Option Entry)) (low next n k : ℕ) (d last : ℕ × Option Entry) → AreSlots low next es → slice_get es (length es - 1) ≡ Some last → k < length es - (last.0 - n) → (get_or es k d).0 ≤ n
before-last es low next n k d last are at less =
    let far : (get_or es k d).0 + (length es - 1 - k) ≤ (get_or es (length es - 1) d).0 = slots-apart es low next k (length es - 1) d are (omega arith) (omega arith) in
    let end : (get_or es (length es - 1) d).0 ≡ last.0 = ap (λ (s : ℕ × Option Entry). s.0) (get_or_from_slice_get es (length es - 1) last d at) in omega arith

-- and below that of one that stands so far above the first
pub behind-first : (es : List (ℕ × Option Entry)) (low next n k : ℕ) (d first : ℕ × Option Entry) → AreSlots low next es → slice_get es 0 ≡ Some first → n - first.0 + 1 ≤ k → k < length es → n < (get_or es k d).0
behind-first es low next n k d first are at far less =
    let apart : (get_or es 0 d).0 + (k - 0) ≤ (get_or es k d).0 = slots-apart es low next 0 k d are (omega arith) less in
    let start : (get_or es 0 d).0 ≡ first.0 = ap (λ (s : ℕ × Option Entry). s.0) (get_or_from_slice_get es 0 first d at) in omega arith

-- the one index isn't behind the other
pub window-order : (es : List (ℕ × Option Entry)) (low next n : ℕ) (first last : ℕ × Option Entry) → AreSlots low next es → slice_get es 0 ≡ Some first → slice_get es (length es - 1) ≡ Some last → length es - (last.0 - n) ≤ n - first.0 + 1
window-order [] low next n first last are start end = absurd (let none : ⊥ = cc in none)
window-order (s ∷ es) low next n first last are start end =
    let len : 1 ≤ length (s ∷ es) = omega arith in
    let apart : (get_or (s ∷ es) 0 first).0 + (length (s ∷ es) - 1 - 0) ≤ (get_or (s ∷ es) (length (s ∷ es) - 1) first).0 = slots-apart (s ∷ es) low next 0 (length (s ∷ es) - 1) first are (omega arith) (omega arith) in
    let a : (get_or (s ∷ es) 0 first).0 ≡ first.0 = ap (λ (s : ℕ × Option Entry). s.0) (get_or_from_slice_get (s ∷ es) 0 first first start) in
    let b : (get_or (s ∷ es) (length (s ∷ es) - 1) first).0 ≡ last.0 = ap (λ (s : ℕ × Option Entry). s.0) (get_or_from_slice_get (s ∷ es) (length (s ∷ es) - 1) last first end) in omega arith

-- what stands at a index of a part of the list
part-at : {X : Type 0} (es : List X) (start end k : ℕ) (d : X) → k < end - start → get_or (take (end - start) (drop start es)) k d ≡ get_or es (start + k) d
part-at es start end k d less = get_or-take (end - start) (drop start es) k d less ∙ get_or-drop start es k d

-- how long the part is
pub part-length : {X : Type 0} (es : List X) (start end : ℕ) → end ≤ length es → length (take (end - start) (drop start es)) ≡ end - start
part-length es start end fits = length-take-le (end - start) (drop start es) (let len : length (drop start es) ≡ length es - start = length-drop start es in omega arith)

-- numbers rise in each part
pub part-does_not_fall : (es : List (ℕ × Option Entry)) (low next start end : ℕ) → AreSlots low next es → end ≤ length es → IsNonDecreasingBy (λ (slot : ℕ × Option Entry). slot.0) (take (end - start) (drop start es))
part-does_not_fall es low next start end are fits i j d le less =
    let len = part-length es start end fits in
    let apart : (get_or es (start + i) d).0 + (start + j - (start + i)) ≤ (get_or es (start + j) d).0 = slots-apart es low next (start + i) (start + j) d are (omega arith) (omega arith) in
    let a : (get_or (take (end - start) (drop start es)) i d).0 ≡ (get_or es (start + i) d).0 = ap (λ (s : ℕ × Option Entry). s.0) (part-at es start end i d (omega arith)) in
    let b : (get_or (take (end - start) (drop start es)) j d).0 ≡ (get_or es (start + j) d).0 = ap (λ (s : ℕ × Option Entry). s.0) (part-at es start end j d (omega arith)) in omega arith

-- the slots up to a number, by those up to it in a part before which all are and behind which none is
pub parted-by_part : (es : List (ℕ × Option Entry)) (n start end index : ℕ) → start ≤ end → end ≤ length es → index ≤ end - start →
    AllWithin (λ (slot : ℕ × Option Entry). slot.0 ≤ n) es 0 start → AllWithin (λ (slot : ℕ × Option Entry). n < slot.0) es end (length es) →
    IsPartitionPoint (λ (slot : ℕ × Option Entry). slot.0 ≤ n) (λ (slot : ℕ × Option Entry). n < slot.0) (take (end - start) (drop start es)) index →
    IsPartitionPoint (λ (slot : ℕ × Option Entry). slot.0 ≤ n) (λ (slot : ℕ × Option Entry). n < slot.0) es (start + index)
parted-by_part es n start end index order fits bound before behind parted = (λ k d zero less. up k d less (lt_or k start), λ k d from less. down k d from less (lt_or k end)) where
  lt_or : (k m : ℕ) → (k < m) ⊎ (m ≤ k)
  lt_or k m = lt_in (nat_lt k m) refl where
    lt_in : (b : Bool) → nat_lt k m ≡ b → (k < m) ⊎ (m ≤ k)
    lt_in true t = inl (grind (arith, nat_tests))
    lt_in false t = inr (grind (arith, nat_tests))

  here : (k : ℕ) (d : ℕ × Option Entry) → start ≤ k → k < end → get_or (take (end - start) (drop start es)) (k - start) d ≡ get_or es k d
  here k d from less = part-at es start end (k - start) d (omega arith) ∙ ap (λ (i : ℕ). get_or es i d) (let e : start + (k - start) ≡ k = omega arith in e)

  up : (k : ℕ) (d : ℕ × Option Entry) → k < start + index → (k < start) ⊎ (start ≤ k) → (get_or es k d).0 ≤ n
  up k d less (inl low) = before k d (omega arith) low
  up k d less (inr from) = subst (λ (s : ℕ × Option Entry). s.0 ≤ n) (here k d from (omega arith)) (parted.0 (k - start) d (omega arith) (omega arith))

  down : (k : ℕ) (d : ℕ × Option Entry) → start + index ≤ k → k < length es → (k < end) ⊎ (end ≤ k) → n < (get_or es k d).0
  down k d from less (inr high) = behind k d high less
  down k d from less (inl low) =
      let len = part-length es start end fits in
      subst (λ (s : ℕ × Option Entry). n < s.0) (here k d (omega arith) low) (parted.1 (k - start) d (omega arith) (omega arith))
