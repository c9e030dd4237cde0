-- The fields of a table after a write to one slot.
use Rattle.std.proofs.Common.{◌≡◌, ℕ, ◌+◌, ◌≤◌, Bool, true, false, List, [], ◌∷◌, get_or, Option, Some, None, IsSome, refl, sym, ap, ◌∙◌, subst, inl, inr, ◌⊎◌, arith}
use Rattle.std.specs.Prelude.{slice_set}
use Rattle.std.specs.Map.{set_value}
use Rattle.std.specs.Ordering.{nat_cmp}
use Rattle.std.specs.BTreeMap.{is_at}
use Rattle.std.specs.Option.{option_map}
use Rattle.eden_base.specs.declared.number.FileId.{FileId}
use Rattle.eden_base.specs.declared.number.Number.{Number}
use Rattle.directory_index.specs.CountedIndex.{IsCountedOf}
use Rattle.directory_index.specs.Standing.{inserted, removed, Standing, StandsNowhere}
use Rattle.directory_index.specs.declared.counted_index.CountedIndex.{CountedIndex}
use Rattle.eden_base.proofs.NumberTests.{eq-or}
use Rattle.eden_base.specs.declared.place.Place.TheVariants.{Linked, Unlinked}
use Rattle.eden_base.specs.First.{changed_where, without_where}
use Rattle.entry_table.specs.Entries.{has_number, entry_at, entry_of, marked, moved_to, IsLinked}
use Rattle.entry_table.specs.Inside.{IsTable}
use Rattle.entry_table.specs.Slots.{kept_from, slot_at, all_beside, files_from, notes_from, spare_of, AreSlots, IsIndexOf as IsSlotOf}
use Rattle.entry_table.specs.Standing.{place_of_number, place_under, IsIndexed}
use Rattle.entry_table.specs.Table.{TableState, kept_of}
use Rattle.entry_table.specs.declared.kept.Kept.{Kept}
use Rattle.entry_table.specs.declared.kept.Entry.{Entry}
use Rattle.entry_table.specs.declared.table.Table.TheInside.{Inside}
use Rattle.eden_base.proofs.MemberLemmas.{some-same, some-none, some-IsSome}
use Rattle.entry_table.proofs.FileLemmas.{linked-marked}
use Rattle.entry_table.proofs.Changing.{KeepsPlace}
use Rattle.entry_table.proofs.Placed.{changed-elsewhere, changed-here, changed-nowhere, placed-entry, placed-free, placed-linked, without-elsewhere, without-here}
use Rattle.entry_table.proofs.Standing.{indexed-gained, indexed-lost, indexed-same, under}
use Rattle.entry_table.proofs.SlotLemmas.{slot_held, some-held, held-entry, slots-numbers}
use Rattle.entry_table.proofs.SlotSearch.{index-found, index-set}
use Rattle.entry_table.proofs.SlotWrites.{set-slots, set-kept, set-beside}

abbrev pub view_of : Inside → TableState
view_of t = record { entries = kept_from t.slots.items; remembered = files_from t.slots.items; notes = notes_from t.slots.items; next = t.next; spare = spare_of t.is_reserved }

-- what is an entry stands in a slot
pub entry-slot : (t : Inside) (now : TableState) (n : ℕ) → view_of t ≡ now → IsTable t → IsSome (entry_of now.entries n) → (h : Entry) × (slot_at t.slots.items n ≡ Some (Some h))
entry-slot t now n view is some = some-held t.slots.items 2 t.next n is.slots (subst (λ (s : TableState). IsSome (entry_of s.entries n)) (sym view) some)

pub never-none : (t : Inside) (now : TableState) (n : ℕ) → view_of t ≡ now → IsTable t → IsSome (entry_of now.entries n) → None ≡ slot_at t.slots.items n → ⊥
never-none t now n view is some at = let w = entry-slot t now n view is some in let e = at ∙ w.1 in let none : ⊥ = cc in none

pub never-empty : (t : Inside) (now : TableState) (n : ℕ) → view_of t ≡ now → IsTable t → IsSome (entry_of now.entries n) → Some None ≡ slot_at t.slots.items n → ⊥
never-empty t now n view is some at = let w = entry-slot t now n view is some in let e = at ∙ w.1 in let none : ⊥ = cc in none

-- the entry that stands in a slot
pub slot-entry : (t : Inside) (n : ℕ) (h : Entry) → IsTable t → slot_at t.slots.items n ≡ Some (Some h) → entry_of (kept_from t.slots.items) n ≡ Some (kept_of n h)
slot-entry t n h is found = sym (held-entry t.slots.items 2 t.next n is.slots) ∙ ap (λ o. option_map (kept_of n) (slot_held o)) found

pub changed-none : (es : List Kept) (p : Kept → Bool) → changed_where p (λ x. x) es ≡ es
changed-none [] p = refl
changed-none (x ∷ es) p = in_ (p x) (changed-none es p) where
  in_ : (b : Bool) → changed_where p (λ y. y) es ≡ es → Rattle.std.specs.Bool.if◌then◌else◌ b (x ∷ es) (x ∷ changed_where p (λ y. y) es) ≡ x ∷ es
  in_ true e = refl
  in_ false e = ap (λ (xs : List Kept). x ∷ xs) e

-- a slot that was found by its number
module _ (t : Inside) (n index : ℕ) (slot : ℕ × Option Entry) (is : IsTable t) (there : IsSlotOf t.slots.items n index) (value : slot ≡ get_or t.slots.items index slot) where
  pub found-in : slot_at t.slots.items n ≡ Some slot.1
  found-in = index-found t.slots.items 2 t.next n index slot is.slots there ∙ ap (λ (s : ℕ × Option Entry). Some s.1) (sym value)

  -- what is written into it
  pub written : (w : Option Entry) → slice_set t.slots.items index (slot.0, w) ≡ set_value (is_at (nat_cmp n)) t.slots.items w
  written w =
      let number : slot.0 ≡ n = ap (λ (s : ℕ × Option Entry). s.0) value ∙ there.1 slot in
      ap (λ (k : ℕ). slice_set t.slots.items index (k, w)) number ∙ index-set t.slots.items 2 t.next n index w is.slots there

  pub written-slots : (w : Option Entry) → AreSlots 2 t.next (slice_set t.slots.items index (slot.0, w))
  written-slots w = rw (written w) (set-slots t.next n w t.slots.items 2 is.slots)

  module _ (h now : Entry) (here : slot.1 ≡ Some h) where
    pub found-held : slot_at t.slots.items n ≡ Some (Some h)
    found-held = found-in ∙ ap Some here

    pub written-kept : (change : Kept → Kept) → change (kept_of n h) ≡ kept_of n now → kept_from (slice_set t.slots.items index (slot.0, Some now)) ≡ changed_where (has_number n) change (kept_from t.slots.items)
    written-kept change is_so = ap kept_from (written (Some now)) ∙ set-kept t.next n h now t.slots.items 2 change is_so is.slots found-held

    pub written-beside : {X : Type 0} (part : Entry → Option X) → part now ≡ part h → all_beside part (slice_set t.slots.items index (slot.0, Some now)) ≡ all_beside part t.slots.items
    written-beside part same = ap (all_beside part) (written (Some now)) ∙ set-beside t.next n h now part t.slots.items 2 same is.slots found-held

-- an index of places, after an entry was written anew
module _ (t : Inside) (n : ℕ) (x : Kept) (is : IsTable t) (here : entry_of (kept_from t.slots.items) n ≡ Some x) where
  abbrev es : List Kept
  es = kept_from t.slots.items

  module _ (new : CountedIndex) (dir : Number) (name : List ℕ) (place : x.place ≡ Linked dir name) (take : (at : Standing) → IsCountedOf at t.index → at dir.0 name ≡ Some n → IsCountedOf (removed at dir.0 name) new) where
    -- without its entry
    pub indexed-without : IsIndexed (place_of_number (without_where (has_number n) es)) new
    indexed-without =
        indexed-lost (place_of_number es) (place_of_number (without_where (has_number n) es)) n (without-elsewhere es n) t.index new dir.0 name
        (placed-linked es n x dir name here place) (without-here es 2 t.next n (slots-numbers t.slots.items 2 t.next is.slots)) is.indexed take

    -- with a mark
    pub indexed-marked : (file : FileId) → IsIndexed (place_of_number (changed_where (has_number n) (marked file) es)) new
    indexed-marked file =
        indexed-lost (place_of_number es) (place_of_number (changed_where (has_number n) (marked file) es)) n (changed-elsewhere es n (marked file) (λ y. refl)) t.index new dir.0 name
        (placed-linked es n x dir name here place) (changed-here es n (marked file) (λ y. refl) x here) is.indexed take

    -- at another place, which was free
    pub indexed-moved : (parent : Number) (text : List ℕ) (moved : List ℕ) → text ≡ moved → entry_at es parent.0 moved ≡ None → (last : CountedIndex) →
        ((at : Standing) → IsCountedOf at new → at parent.0 text ≡ None → StandsNowhere at n → IsCountedOf (inserted at parent.0 text n) last) → IsIndexed (place_of_number (changed_where (has_number n) (moved_to parent moved) es)) last
    indexed-moved parent text moved same free last put =
        let others : (m : ℕ) → (m ≡ n → ⊥) → place_of_number (changed_where (has_number n) (moved_to parent moved) es) m ≡ place_of_number (without_where (has_number n) es) m = λ m d.
        changed-elsewhere es n (moved_to parent moved) (λ y. refl) m d ∙ sym (without-elsewhere es n m d) in
        indexed-gained (place_of_number (without_where (has_number n) es)) (place_of_number (changed_where (has_number n) (moved_to parent moved) es)) n others new last parent.0 text
        (without-here es 2 t.next n (slots-numbers t.slots.items 2 t.next is.slots))
        (changed-here es n (moved_to parent moved) (λ y. refl) x here ∙ ap (under parent.0) (sym same))
        (λ m e. free_in m e (eq-or m n)) indexed-without put where
          free_in : (m : ℕ) → place_of_number (without_where (has_number n) es) m ≡ Some (parent.0, text) → (m ≡ n) ⊎ (m ≡ n → ⊥) → ⊥
          free_in m e (inl is_it) =
              some-none (place_of_number (without_where (has_number n) es) n) (parent.0, text) (ap (place_of_number (without_where (has_number n) es)) (sym is_it) ∙ e)
              (without-here es 2 t.next n (slots-numbers t.slots.items 2 t.next is.slots))
          free_in m e (inr other) = placed-free es parent.0 moved free m (sym (without-elsewhere es n m other) ∙ e ∙ ap (under parent.0) same)

  -- where it stood under no name
  pub indexed-left : (file : FileId) → x.place ≡ Unlinked file → IsIndexed (place_of_number (without_where (has_number n) es)) t.index
  indexed-left file place = indexed-same (place_of_number es) (place_of_number (without_where (has_number n) es)) t.index (λ m. in_ m (eq-or m n)) is.indexed where
    in_ : (m : ℕ) → (m ≡ n) ⊎ (m ≡ n → ⊥) → place_of_number (without_where (has_number n) es) m ≡ place_of_number es m
    in_ m (inl same) =
        ap (place_of_number (without_where (has_number n) es)) same ∙ without-here es 2 t.next n (slots-numbers t.slots.items 2 t.next is.slots)
        ∙ sym (placed-entry es n x here ∙ ap place_under place) ∙ ap (place_of_number es) (sym same)
    in_ m (inr other) = without-elsewhere es n m other

-- an index of places where an entry keeps its place
pub indexed-changed : (t : Inside) (k : ℕ) (change : Kept → Kept) → KeepsPlace change → IsTable t → IsIndexed (place_of_number (changed_where (has_number k) change (kept_from t.slots.items))) t.index
indexed-changed t k change keeps is =
    indexed-same (place_of_number (kept_from t.slots.items)) (place_of_number (changed_where (has_number k) change (kept_from t.slots.items))) t.index (changed-nowhere (kept_from t.slots.items) k change keeps) is.indexed

-- whether the next number is reserved
pub reserved : (t : Inside) (now : TableState) → view_of t ≡ now → now.spare ≡ 1 → t.is_reserved ≡ true
reserved t now view one = in_ t.is_reserved (ap (λ (s : TableState). s.spare) view ∙ one) where
  in_ : (b : Bool) → spare_of b ≡ 1 → b ≡ true
  in_ true e = refl
  in_ false e = absurd (omega arith)

-- the way has room for the slots, with one more where that was reserved
pub way-filled : (b : Bool) (old new room : ℕ) → b ≡ true → new ≡ old + 1 → old + spare_of b ≤ room → new + 0 ≤ room
way-filled true old new room is more h = omega arith
way-filled false old new room is more h = absurd (let none : ⊥ = cc in none)

pub way-room : (b : Bool) (slots room : ℕ) → slots + spare_of b ≤ room → slots ≤ room
way-room b slots room h = omega arith

-- a linked entry is one, with this place
pub linked-some : (es : List Kept) (n : ℕ) → IsLinked es n → IsSome (entry_of es n)
linked-some es n linked = some-IsSome (entry_of es n) linked.0 linked.3

pub linked-place : (t : Inside) (now : TableState) (n : ℕ) (h : Entry) (file : FileId) → view_of t ≡ now → IsTable t → IsLinked now.entries n → slot_at t.slots.items n ≡ Some (Some h) → h.place ≡ Unlinked file → ⊥
linked-place t now n h file view is linked found unlinked =
    let there : entry_of now.entries n ≡ Some (kept_of n h) = ap (λ (s : TableState). entry_of s.entries n) (sym view) ∙ slot-entry t n h is found in
    let same : linked.0 ≡ kept_of n h = some-same (entry_of now.entries n) linked.0 (kept_of n h) linked.3 there in
    linked-marked h.place linked.1 linked.2 file (ap (λ (k : Kept). k.place) (sym same) ∙ linked.4) unlinked
