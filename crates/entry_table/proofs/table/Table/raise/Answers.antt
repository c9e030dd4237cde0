-- A count is raised in the slot of its entry, or the slot stays as it was.
use Rattle.std.proofs.Common.{◌≡◌, ℕ, ◌+◌, ◌<◌, ◌≤◌, true, false, List, Option, Some, None, refl, sym, ap, ◌∙◌, subst, arith}
use Rattle.std.specs.Prelude.{nat_lt}
use Rattle.std.proofs.lemmas.Bool.Decides.{nat_tests}
use Rattle.eden_base.specs.Limits.{greatest_count}
use Rattle.entry_table.specs.Entries.{count_of, once_more}
use Rattle.entry_table.specs.Slots.{slot_at, file_beside, note_beside, IsIndexOf}
use Rattle.entry_table.specs.Standing.{place_of_number, IsIndexed}
use Rattle.entry_table.specs.declared.kept.Kept.{Kept}
use Rattle.entry_table.specs.declared.kept.Entry.{Entry}
use Rattle.entry_table.proofs.Counting.{once-keeps, count_in, count-held}
use Rattle.entry_table.proofs.SlotLemmas.{slot_held, files-kept}
use Rattle.entry_table.proofs.TableLemmas.{never-none, never-empty, found-in, found-held, written-slots, written-kept, written-beside, indexed-changed}
use Rattle.entry_table.proofs.table.Table.raise.Goals as goal

full_in : (m : ℕ) → greatest_count ≤ m → nat_lt m greatest_count ≡ false
full_in m e = grind (arith, nat_tests)

free_in : (m : ℕ) → m < greatest_count → nat_lt m greatest_count ≡ true
free_in m e = grind (arith, nat_tests)

pub unreachable-requires : goal.unreachable-requires
unreachable-requires c =
    never-none c.self.inside c.args.self.now c.args.number.0 c.self.view_is c.self.invariant c.requires.held (sym (subst (λ (es : List (ℕ × Option Entry)). slot_at es c.args.number.0 ≡ None) c.as_slice.ensures.value c.in_default.ensures.none))

pub unreachable-requires-in_default-1₀ : goal.unreachable-requires-in_default-1₀
unreachable-requires-in_default-1₀ c =
    let t = c.self.inside in
    let n = c.args.number.0 in
    let there = subst (λ (es : List (ℕ × Option Entry)). IsIndexOf es n c.in-Some.index) c.as_slice.ensures.value c.in-Some.ensures.index in
    never-empty t c.args.self.now n c.self.view_is c.self.invariant c.requires.held
    (sym (found-in t n c.in-Some.index c.index_mut-slot.result.now c.self.invariant there c.index_mut-slot.ensures.value ∙ ap Some c.in_default-1₀.is))

pub returns-then-entry-ge-GREATEST_COUNT-clause-may : goal.returns-then-entry-ge-GREATEST_COUNT-clause-may
returns-then-entry-ge-GREATEST_COUNT-clause-may c =
    let t = c.self.inside in
    let n = c.args.number.0 in
    let slot = c.index_mut-slot.result.now in
    let h = c.in-Some-1₀.entry in
    let there = subst (λ (es : List (ℕ × Option Entry)). IsIndexOf es n c.in-Some.index) c.as_slice.ensures.value c.in-Some.ensures.index in
    let count = count-held t c.args.self.now n c.self.view_is c.self.invariant ∙ ap (λ o. count_in (slot_held o)) (found-held t n c.in-Some.index slot c.self.invariant there c.index_mut-slot.ensures.value h h c.in-Some-1₀.is) in
    let full = c.if-entry-ge-GREATEST_COUNT.true in
    sym (full_in (count_of c.args.self.now.entries n) (omega arith))

pub returns-then-entry-ge-GREATEST_COUNT-clause-kept : goal.returns-then-entry-ge-GREATEST_COUNT-clause-kept
returns-then-entry-ge-GREATEST_COUNT-clause-kept c = rw (← c.self.view_is) (files-kept c.self.inside.slots.items)

pub invariant_of-self-2 : goal.invariant_of-self-2
invariant_of-self-2 c =
    let t = c.self.inside in
    let n = c.args.number.0 in
    let slot = c.index_mut-slot.result.now in
    let h = c.in-Some-1₀.entry in
    let there = subst (λ (es : List (ℕ × Option Entry)). IsIndexOf es n c.in-Some.index) c.as_slice.ensures.value c.in-Some.ensures.index in
    let now : Entry = record h { count = h.count + 1 } in
    record {
      slots = written-slots t n c.in-Some.index slot c.self.invariant there c.index_mut-slot.ensures.value (Some now);
      indexed = subst (λ (es : List Kept). IsIndexed (place_of_number es) t.index) (sym (written-kept t n c.in-Some.index slot c.self.invariant there c.index_mut-slot.ensures.value h now c.in-Some-1₀.is once_more refl))
          (indexed-changed t n once_more once-keeps c.self.invariant);
      ready = c.self.invariant.ready;
      free = c.self.invariant.free;
      room = c.self.invariant.room;
    }

pub returns-clause-may : goal.returns-clause-may
returns-clause-may c =
    let t = c.self.inside in
    let n = c.args.number.0 in
    let slot = c.index_mut-slot.result.now in
    let h = c.in-Some-1₀.entry in
    let there = subst (λ (es : List (ℕ × Option Entry)). IsIndexOf es n c.in-Some.index) c.as_slice.ensures.value c.in-Some.ensures.index in
    let count = count-held t c.args.self.now n c.self.view_is c.self.invariant ∙ ap (λ o. count_in (slot_held o)) (found-held t n c.in-Some.index slot c.self.invariant there c.index_mut-slot.ensures.value h h c.in-Some-1₀.is) in
    let free = c.if-entry-ge-GREATEST_COUNT.false in
    sym (free_in (count_of c.args.self.now.entries n) (omega arith))

pub returns-clause-raised : goal.returns-clause-raised
returns-clause-raised c =
    let t = c.self.inside in
    let n = c.args.number.0 in
    let slot = c.index_mut-slot.result.now in
    let h = c.in-Some-1₀.entry in
    let there = subst (λ (es : List (ℕ × Option Entry)). IsIndexOf es n c.in-Some.index) c.as_slice.ensures.value c.in-Some.ensures.index in
    let now : Entry = record h { count = h.count + 1 } in
    rw (← c.self.view_is, written-kept t n c.in-Some.index slot c.self.invariant there c.index_mut-slot.ensures.value h now c.in-Some-1₀.is once_more refl, written-beside t n c.in-Some.index slot c.self.invariant there c.index_mut-slot.ensures.value h now c.in-Some-1₀.is file_beside refl, written-beside t n c.in-Some.index slot c.self.invariant there c.index_mut-slot.ensures.value h now c.in-Some-1₀.is note_beside refl) refl

pub returns-clause-kept : goal.returns-clause-kept
returns-clause-kept c = rw (← c.self.view_is) (files-kept c.self.inside.slots.items)
