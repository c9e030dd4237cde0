-- A table of which an entry was taken out of its slot.
use Rattle.std.proofs.Common.{◌≡◌, ℕ, List, Option, Some, get_or, refl, sym, ap, ◌∙◌, subst}
use Rattle.std.specs.Option.{option_map, option_and_then}
use Rattle.directory_index.specs.CountedIndex.{IsCountedOf}
use Rattle.directory_index.specs.Standing.{removed, Standing}
use Rattle.directory_index.specs.declared.counted_index.CountedIndex.{CountedIndex}
use Rattle.eden_base.specs.First.{without_where}
use Rattle.eden_base.specs.declared.number.FileId.{FileId}
use Rattle.eden_base.specs.declared.number.Number.{Number}
use Rattle.eden_base.specs.declared.place.Place.TheVariants.{Linked, Unlinked}
use Rattle.entry_table.specs.Entries.{has_number, entry_of, place_of_kept}
use Rattle.entry_table.specs.Inside.{IsTable}
use Rattle.entry_table.specs.Slots.{kept_from, slot_at, file_beside, note_beside, files_from, notes_from, spare_of, AreSlots, IsIndexOf as IsSlotOf}
use Rattle.entry_table.specs.Standing.{place_of_number, IsIndexed}
use Rattle.entry_table.specs.Table.{TableState, kept_of, without_entry, note_of}
use Rattle.entry_table.specs.declared.kept.Kept.{Kept}
use Rattle.entry_table.specs.declared.kept.Entry.{Entry}
use Rattle.entry_table.specs.declared.table.Table.TheInside.{Inside}
use Rattle.entry_table.proofs.SlotLemmas.{held-beside}
use Rattle.entry_table.proofs.SlotWrites.{set-slots, emptied, emptied-kept, emptied-beside}
use Rattle.entry_table.proofs.TableLemmas.{view_of, slot-entry, found-held, written, indexed-left, indexed-without}
use Rattle.std.specs.Prelude.{None, slice_set}

-- what was taken out of the slot of a number, and what is left
pub record Taken (t : Inside) (n : ℕ) (h : Entry) (left : List (ℕ × Option Entry)) : Type 0 where
  pub is : IsTable t
  pub found : slot_at t.slots.items n ≡ Some (Some h)
  pub taken : left ≡ emptied t.next n h t.slots.items

-- by the index at which the slot was found
pub taken-at : (t : Inside) (n index : ℕ) (slot : ℕ × Option Entry) (h : Entry) (now : Option Entry) (slots : List (ℕ × Option Entry)) → IsTable t → slots ≡ t.slots.items → IsSlotOf slots n index →
    slot ≡ get_or t.slots.items index slot → slot.1 ≡ Some h → now ≡ None → Taken t n h (slice_set t.slots.items index (slot.0, now))
taken-at t n index slot h now slots is same at value full gone =
    let there = subst (λ (es : List (ℕ × Option Entry)). IsSlotOf es n index) same at in
    record {
      is = is;
      found = found-held t n index slot is there value h h full;
      taken = ap (λ (w : Option Entry). slice_set t.slots.items index (slot.0, w)) gone ∙ written t n index slot is there value None;
    }

module _ {t : Inside} {n : ℕ} {h : Entry} {left : List (ℕ × Option Entry)} (out : Taken t n h left) where
  abbrev pub kept_left : List Kept
  kept_left = without_where (has_number n) (kept_from t.slots.items)

  pub left-slots : AreSlots 2 t.next left
  left-slots = rw out.taken (set-slots t.next n None t.slots.items 2 out.is.slots)

  pub left-kept : kept_from left ≡ kept_left
  left-kept = ap kept_from out.taken ∙ emptied-kept t.next n h t.slots.items 2 out.is.slots out.found

  here : entry_of (kept_from t.slots.items) n ≡ Some (kept_of n h)
  here = slot-entry t n h out.is out.found

  -- the index without its place, if it had one
  pub left-lost : (parent : Number) (name : List ℕ) → h.place ≡ Linked parent name → (index : CountedIndex) →
      ((at : Standing) → IsCountedOf at t.index → at parent.0 name ≡ Some n → IsCountedOf (removed at parent.0 name) index) → IsIndexed (place_of_number (kept_from left)) index
  left-lost parent name place index take = subst (λ (es : List Kept). IsIndexed (place_of_number es) index) (sym left-kept) (indexed-without t n (kept_of n h) out.is here index parent name place take)

  pub left-marked : (file : FileId) → h.place ≡ Unlinked file → IsIndexed (place_of_number (kept_from left)) t.index
  left-marked file place = subst (λ (es : List Kept). IsIndexed (place_of_number es) t.index) (sym left-kept) (indexed-left t n (kept_of n h) out.is here file place)

  -- what its view says
  pub left-place : (now : TableState) → view_of t ≡ now → option_map place_of_kept (entry_of now.entries n) ≡ Some h.place
  left-place now view = rw (← view) (ap (option_map place_of_kept) here)

  pub left-note : (now : TableState) → view_of t ≡ now → note_of now.notes n ≡ h.note
  left-note now view =
      rw (← view) (sym (held-beside note_beside t.slots.items 2 t.next n out.is.slots)
      ∙ ap (λ (s : Option (Option Entry)). option_and_then note_beside (option_and_then (λ (entry : Option Entry). entry) s)) out.found)

  pub left-view : (now : TableState) → view_of t ≡ now →
      record { entries = kept_from left; remembered = files_from left; notes = notes_from left; next = t.next; spare = spare_of t.is_reserved } ≡ without_entry now n (without_where (has_number n) now.entries)
  left-view now view = rw (← view, out.taken, emptied-kept t.next n h t.slots.items 2 out.is.slots out.found, emptied-beside file_beside t.next n h t.slots.items 2 out.is.slots out.found, emptied-beside note_beside t.next n h t.slots.items 2 out.is.slots out.found) refl
