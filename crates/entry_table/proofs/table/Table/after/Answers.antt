-- The first entry behind the slots up to a number is the least above it.
use Rattle.std.proofs.Common.{ℕ, List, Option, ap, ◌∙◌}
use Rattle.std.proofs.lemmas.List.{take_rest}
use Rattle.entry_table.specs.Entries.{number_after}
use Rattle.entry_table.specs.Slots.{kept_from, first_number}
use Rattle.entry_table.specs.declared.kept.Entry.{Entry}
use Rattle.entry_table.proofs.SlotSearch.{first-after}
use Rattle.entry_table.proofs.table.Table.after.Goals as goal

pub returns : goal.returns
returns c =
    let es = c.as_slice-slots.result.now in
    let behind = c.first_in.ensures ∙ ap (λ (rest : List (ℕ × Option Entry)). first_number (kept_from rest)) (take_rest es c.up_to.result) in
    record {
      after = rw (← c.self.view_is) (behind ∙ first-after es c.args.number.0 c.up_to.result c.up_to.ensures.parted
          ∙ ap (λ (slots : List (ℕ × Option Entry)). number_after (kept_from slots) c.args.number.0) c.as_slice-slots.ensures.value);
    }
