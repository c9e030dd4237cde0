-- What is remembered and noted stands in the slot of the entry.
use Rattle.std.proofs.Common.{ℕ, List, Option, ap, ◌∙◌}
use Rattle.entry_table.specs.Slots.{held_in, file_beside, note_beside}
use Rattle.std.specs.Option.{option_and_then}
use Rattle.entry_table.specs.declared.kept.Entry.{Entry}
use Rattle.entry_table.proofs.SlotLemmas.{held-beside, files-kept}
use Rattle.entry_table.proofs.table.Table.get.Goals as goal

pub returns-clause-file : goal.returns-clause-file
returns-clause-file c =
    let t = c.self.inside in
    rw (← c.self.view_is) (ap (option_and_then file_beside) (c.held_at.ensures.held ∙ ap (λ (es : List (ℕ × Option Entry)). held_in es c.args.number.0) c.as_slice.ensures.value) ∙ held-beside file_beside t.slots.items 2 t.next c.args.number.0 c.self.invariant.slots)

pub returns-clause-note : goal.returns-clause-note
returns-clause-note c =
    let t = c.self.inside in
    rw (← c.self.view_is) (ap (option_and_then note_beside) (c.held_at.ensures.held ∙ ap (λ (es : List (ℕ × Option Entry)). held_in es c.args.number.0) c.as_slice.ensures.value) ∙ held-beside note_beside t.slots.items 2 t.next c.args.number.0 c.self.invariant.slots)

pub returns-clause-kept : goal.returns-clause-kept
returns-clause-kept c = rw (← c.self.view_is) (files-kept c.self.inside.slots.items)
