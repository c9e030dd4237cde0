-- A name is taken out of its slot and out of the index.
use Rattle.std.proofs.Common.{◌≡◌, ℕ, List, Option, Some, None, refl, sym, ap, ◌∙◌, subst}
use Rattle.std.specs.Prelude.{slice_set}
use Rattle.eden_base.specs.declared.place.Place.TheVariants.{Linked, Unlinked}
use Rattle.entry_table.specs.Entries.{entry_of, marked}
use Rattle.entry_table.specs.Slots.{slot_at, file_beside, note_beside, IsIndexOf}
use Rattle.entry_table.specs.Standing.{place_of_number, IsIndexed}
use Rattle.entry_table.specs.Table.{TableState, kept_of}
use Rattle.entry_table.specs.declared.kept.Kept.{Kept}
use Rattle.entry_table.specs.declared.kept.Entry.{Entry}
use Rattle.entry_table.proofs.SlotLemmas.{files-kept}
use Rattle.entry_table.proofs.TableLemmas.{never-none, never-empty, slot-entry, found-in, found-held, written-slots, written-kept, written-beside, indexed-marked, linked-some, linked-place}
use Rattle.entry_table.proofs.table.Table.unlink.Goals as goal

pub unreachable-requires : goal.unreachable-requires
unreachable-requires c =
    never-none c.self.inside c.args.self.now c.args.number.0 c.self.view_is c.self.invariant (linked-some c.args.self.now.entries c.args.number.0 c.requires.linked)
    (sym (subst (λ (es : List (ℕ × Option Entry)). slot_at es c.args.number.0 ≡ None) c.as_slice.ensures.value c.in_default.ensures.none))

pub unreachable-requires-in_default-take : goal.unreachable-requires-in_default-take
unreachable-requires-in_default-take c =
    let t = c.self.inside in
    let n = c.args.number.0 in
    let slot = c.index_mut-slot.result.now in
    let there = subst (λ (es : List (ℕ × Option Entry)). IsIndexOf es n c.in-Some.index) c.as_slice.ensures.value c.in-Some.ensures.index in
    never-empty t c.args.self.now n c.self.view_is c.self.invariant (linked-some c.args.self.now.entries n c.requires.linked)
    (sym (found-in t n c.in-Some.index slot c.self.invariant there c.index_mut-slot.ensures.value ∙ ap Some (sym c.take.ensures.value ∙ c.in_default-take.is)))

pub unreachable-requires-in_default-place : goal.unreachable-requires-in_default-place
unreachable-requires-in_default-place c =
    let t = c.self.inside in
    let n = c.args.number.0 in
    let slot = c.index_mut-slot.result.now in
    let h = c.in-Some-take.entry in
    let there = subst (λ (es : List (ℕ × Option Entry)). IsIndexOf es n c.in-Some.index) c.as_slice.ensures.value c.in-Some.ensures.index in
    let here = sym c.take.ensures.value ∙ c.in-Some-take.is in
    linked-place t c.args.self.now n h c.in_default-place.field-0 c.self.view_is c.self.invariant c.requires.linked (found-held t n c.in-Some.index slot c.self.invariant there c.index_mut-slot.ensures.value h h here) c.in_default-place.is

pub invariant_of-self : goal.invariant_of-self
invariant_of-self c =
    let t = c.self.inside in
    let n = c.args.number.0 in
    let slot = c.index_mut-slot.result.now in
    let h = c.in-Some-take.entry in
    let there = subst (λ (es : List (ℕ × Option Entry)). IsIndexOf es n c.in-Some.index) c.as_slice.ensures.value c.in-Some.ensures.index in
    let here = sym c.take.ensures.value ∙ c.in-Some-take.is in
    let now : Entry = record { place = Unlinked c.args.file; count = h.count; file = h.file; note = h.note } in
    let entry = slot-entry t n h c.self.invariant (found-held t n c.in-Some.index slot c.self.invariant there c.index_mut-slot.ensures.value h now here) in
    record {
      slots = written-slots t n c.in-Some.index slot c.self.invariant there c.index_mut-slot.ensures.value (Some now);
      indexed = subst (λ (es : List Kept). IsIndexed (place_of_number es) c.remove.new.self) (sym (written-kept t n c.in-Some.index slot c.self.invariant there c.index_mut-slot.ensures.value h now here (marked c.args.file) refl))
          (indexed-marked t n (kept_of n h) c.self.invariant entry c.remove.new.self c.in-Linked.parent c.bytes.result.now (c.in-Linked.is ∙ ap (Linked c.in-Linked.parent) (sym c.bytes.ensures.bytes)) c.remove.ensures.removed c.args.file);
      ready = λ is. c.remove.ensures.room (c.self.invariant.ready is);
      free = c.self.invariant.free;
      room = c.self.invariant.room;
    }

pub returns-clause-unlinked : goal.returns-clause-unlinked
returns-clause-unlinked c =
    let t = c.self.inside in
    let n = c.args.number.0 in
    let slot = c.index_mut-slot.result.now in
    let h = c.in-Some-take.entry in
    let there = subst (λ (es : List (ℕ × Option Entry)). IsIndexOf es n c.in-Some.index) c.as_slice.ensures.value c.in-Some.ensures.index in
    let here = sym c.take.ensures.value ∙ c.in-Some-take.is in
    let now : Entry = record { place = Unlinked c.args.file; count = h.count; file = h.file; note = h.note } in
    rw (← c.self.view_is, written-kept t n c.in-Some.index slot c.self.invariant there c.index_mut-slot.ensures.value h now here (marked c.args.file) refl, written-beside t n c.in-Some.index slot c.self.invariant there c.index_mut-slot.ensures.value h now here file_beside refl, written-beside t n c.in-Some.index slot c.self.invariant there c.index_mut-slot.ensures.value h now here note_beside refl) refl

pub returns-clause-dir : goal.returns-clause-dir
returns-clause-dir c =
    let t = c.self.inside in
    let n = c.args.number.0 in
    let slot = c.index_mut-slot.result.now in
    let h = c.in-Some-take.entry in
    let there = subst (λ (es : List (ℕ × Option Entry)). IsIndexOf es n c.in-Some.index) c.as_slice.ensures.value c.in-Some.ensures.index in
    let here = sym c.take.ensures.value ∙ c.in-Some-take.is in
    let entry = slot-entry t n h c.self.invariant (found-held t n c.in-Some.index slot c.self.invariant there c.index_mut-slot.ensures.value h h here) in
    (kept_of n h, c.in-Linked.name, ap (λ (s : TableState). entry_of s.entries n) (sym c.self.view_is) ∙ entry, c.in-Linked.is)

pub returns-clause-kept : goal.returns-clause-kept
returns-clause-kept c =
    let h = c.in-Some-take.entry in
    let now : Entry = record { place = Unlinked c.args.file; count = h.count; file = h.file; note = h.note } in
    files-kept (slice_set c.self.inside.slots.items c.in-Some.index (c.index_mut-slot.result.now.0, Some now))
