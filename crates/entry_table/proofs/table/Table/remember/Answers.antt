-- A file is written in the slot of its entry.
use Rattle.std.proofs.Common.{◌≡◌, ℕ, List, Option, Some, None, refl, sym, ap, ◌∙◌, subst}
use Rattle.entry_table.specs.Entries.{has_number}
use Rattle.entry_table.specs.Slots.{slot_at, kept_from, file_beside, note_beside, files_from, IsIndexOf}
use Rattle.entry_table.specs.Standing.{place_of_number, IsIndexed}
use Rattle.entry_table.specs.declared.kept.Kept.{Kept}
use Rattle.entry_table.specs.declared.kept.Entry.{Entry}
use Rattle.entry_table.proofs.SlotGrowth.{set-put}
use Rattle.entry_table.proofs.TableLemmas.{never-none, never-empty, found-in, found-held, written, written-slots, written-kept, written-beside, changed-none}
use Rattle.entry_table.proofs.table.Table.remember.Goals as goal

pub unreachable-requires : goal.unreachable-requires
unreachable-requires c =
    never-none c.self.inside c.args.self.now c.args.number.0 c.self.view_is c.self.invariant c.requires.held (sym (subst (λ (es : List (ℕ × Option Entry)). slot_at es c.args.number.0 ≡ None) c.as_slice.ensures.value c.in_default.ensures.none))

pub unreachable-requires-in_default-1₀ : goal.unreachable-requires-in_default-1₀
unreachable-requires-in_default-1₀ c =
    let t = c.self.inside in
    let n = c.args.number.0 in
    let there = subst (λ (es : List (ℕ × Option Entry)). IsIndexOf es n c.in-Some.index) c.as_slice.ensures.value c.in-Some.ensures.index in
    never-empty t c.args.self.now n c.self.view_is c.self.invariant c.requires.held
    (sym (found-in t n c.in-Some.index c.index_mut-slot.result.now c.self.invariant there c.index_mut-slot.ensures.value ∙ ap Some c.in_default-1₀.is))

pub invariant_of-self : goal.invariant_of-self
invariant_of-self c =
    let t = c.self.inside in
    let n = c.args.number.0 in
    let slot = c.index_mut-slot.result.now in
    let h = c.in-Some-1₀.entry in
    let there = subst (λ (es : List (ℕ × Option Entry)). IsIndexOf es n c.in-Some.index) c.as_slice.ensures.value c.in-Some.ensures.index in
    let now : Entry = record h { file = Some c.args.file } in
    let same = written-kept t n c.in-Some.index slot c.self.invariant there c.index_mut-slot.ensures.value h now c.in-Some-1₀.is (λ x. x) refl ∙ changed-none (kept_from t.slots.items) (has_number n) in
    record {
      slots = written-slots t n c.in-Some.index slot c.self.invariant there c.index_mut-slot.ensures.value (Some now);
      indexed = subst (λ (es : List Kept). IsIndexed (place_of_number es) t.index) (sym same) c.self.invariant.indexed;
      ready = c.self.invariant.ready;
      free = c.self.invariant.free;
      room = c.self.invariant.room;
    }

pub returns : goal.returns
returns c =
    let t = c.self.inside in
    let n = c.args.number.0 in
    let slot = c.index_mut-slot.result.now in
    let h = c.in-Some-1₀.entry in
    let there = subst (λ (es : List (ℕ × Option Entry)). IsIndexOf es n c.in-Some.index) c.as_slice.ensures.value c.in-Some.ensures.index in
    let now : Entry = record h { file = Some c.args.file } in
    let same = written-kept t n c.in-Some.index slot c.self.invariant there c.index_mut-slot.ensures.value h now c.in-Some-1₀.is (λ x. x) refl ∙ changed-none (kept_from t.slots.items) (has_number n) in
    let found = found-held t n c.in-Some.index slot c.self.invariant there c.index_mut-slot.ensures.value h now c.in-Some-1₀.is in
    let files = ap files_from (written t n c.in-Some.index slot c.self.invariant there c.index_mut-slot.ensures.value (Some now)) ∙ set-put file_beside t.next n c.args.file h now refl t.slots.items 2 c.self.invariant.slots found in
    let notes = written-beside t n c.in-Some.index slot c.self.invariant there c.index_mut-slot.ensures.value h now c.in-Some-1₀.is note_beside refl in
    record { remembered = rw (← c.self.view_is, same, files, notes) refl }
