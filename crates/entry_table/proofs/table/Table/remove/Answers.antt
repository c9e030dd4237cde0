-- An entry is taken out of the index and out of its slot.
use Rattle.std.proofs.Common.{◌≡◌, ℕ, List, Option, Some, None, sym, ap, ◌∙◌, subst}
use Rattle.std.specs.Prelude.{slice_set}
use Rattle.std.specs.Option.{option_map}
use Rattle.directory_index.specs.declared.counted_index.CountedIndex.{CountedIndex}
use Rattle.eden_base.specs.declared.place.Place.TheVariants.{Linked}
use Rattle.entry_table.specs.Entries.{entry_of, place_of_kept}
use Rattle.entry_table.specs.Inside.{IsTable}
use Rattle.entry_table.specs.Slots.{slot_at, IsIndexOf}
use Rattle.entry_table.specs.declared.kept.Entry.{Entry}
use Rattle.entry_table.proofs.Removing.{Taken, taken-at, left-slots, left-lost, left-marked, left-place, left-note, left-view}
use Rattle.entry_table.proofs.TableLemmas.{never-none, never-empty, found-in}
use Rattle.entry_table.proofs.table.Table.remove.Goals.{After-take, After-unwrap, in-Linked, in_default-place}
use Rattle.entry_table.proofs.table.Table.remove.Goals as goal

-- the slot stays as it was found until it is emptied
slot-stays : (c : After-take) → c.match-entry.slot ≡ c.index_mut-slot.result.now
slot-stays c = elim c.match-entry.branch [ in-Linked w ↦ w.slot-is | in_default-place w ↦ w.slot-is ]

out : (c : After-take) → Taken c.self.inside c.args.number.0 c.in-Some-1₀.entry (slice_set c.self.inside.slots.items c.in-Some.index (c.match-entry.slot.0, c.take.new.self))
out c = subst (λ (slot : ℕ × Option Entry). Taken c.self.inside c.args.number.0 c.in-Some-1₀.entry (slice_set c.self.inside.slots.items c.in-Some.index (slot.0, c.take.new.self))) (sym (slot-stays c))
    (taken-at c.self.inside c.args.number.0 c.in-Some.index c.index_mut-slot.result.now c.in-Some-1₀.entry c.take.new.self c.as_slice.result.now c.self.invariant c.as_slice.ensures.value c.in-Some.ensures.index c.index_mut-slot.ensures.value c.in-Some-1₀.is c.take.ensures.after)

-- what is returned is what stood in the slot
returned : (c : After-unwrap) → c.in-Some-1₀.entry ≡ c.unwrap.result
returned c =
    let same : Some c.in-Some-1₀.entry ≡ Some c.unwrap.result = sym c.in-Some-1₀.is ∙ ap (λ (slot : ℕ × Option Entry). slot.1) (sym (slot-stays c.before.before)) ∙ sym c.take.ensures.value ∙ c.unwrap.ensures in
    cc

pub unreachable-requires : goal.unreachable-requires
unreachable-requires c =
    never-none c.self.inside c.args.self.now c.args.number.0 c.self.view_is c.self.invariant c.requires.held
    (sym (subst (λ (es : List (ℕ × Option Entry)). slot_at es c.args.number.0 ≡ None) c.as_slice.ensures.value c.in_default.ensures.none))

pub unreachable-requires-in_default-1₀ : goal.unreachable-requires-in_default-1₀
unreachable-requires-in_default-1₀ c =
    let t = c.self.inside in
    let n = c.args.number.0 in
    let there = subst (λ (es : List (ℕ × Option Entry)). IsIndexOf es n c.in-Some.index) c.as_slice.ensures.value c.in-Some.ensures.index in
    never-empty t c.args.self.now n c.self.view_is c.self.invariant c.requires.held (sym (found-in t n c.in-Some.index c.index_mut-slot.result.now c.self.invariant there c.index_mut-slot.ensures.value ∙ ap Some c.in_default-1₀.is))

pub invariant_of-self : goal.invariant_of-self
invariant_of-self c =
    let t = c.self.inside in
    let left = Rattle.std.specs.Vec.with_item t.slots c.in-Some.index (c.match-entry.slot.0, c.take.new.self) in
    elim c.match-entry.branch [
      | in-Linked w ↦
          subst (λ (index : CountedIndex). IsTable (record t { slots = left; index = index })) (sym (ap (λ s. s.1.1.0) w.self-inside-is)) (record {
            slots = left-slots (out c.before);
            indexed = left-lost (out c.before) w.in-Linked.parent w.bytes.result.now (w.in-Linked.is ∙ ap (Linked w.in-Linked.parent) (sym w.bytes.ensures.bytes)) w.remove.new.self w.remove.ensures.removed;
            ready = λ is. w.remove.ensures.room (c.self.invariant.ready is);
            free = c.self.invariant.free;
            room = c.self.invariant.room;
          })
      | in_default-place w ↦
          subst (λ (index : CountedIndex). IsTable (record t { slots = left; index = index })) (sym (ap (λ s. s.1.1.0) w.self-inside-is)) (record {
            slots = left-slots (out c.before);
            indexed = left-marked (out c.before) w.in_default-place.field-0 w.in_default-place.is;
            ready = c.self.invariant.ready;
            free = c.self.invariant.free;
            room = c.self.invariant.room;
          })
    ]

pub returns-clause-place : goal.returns-clause-place
returns-clause-place c =
    subst (λ (entry : Entry). option_map place_of_kept (entry_of c.args.self.now.entries c.args.number.0) ≡ Some entry.place) (returned c) (left-place (out c.before.before) c.args.self.now c.self.view_is)

pub returns-clause-note : goal.returns-clause-note
returns-clause-note c = left-note (out c.before.before) c.args.self.now c.self.view_is ∙ ap (λ (entry : Entry). entry.note) (returned c)

pub returns-clause-removed : goal.returns-clause-removed
returns-clause-removed c = left-view (out c.before.before) c.args.self.now c.self.view_is
