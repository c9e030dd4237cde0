-- What is found in a slot is the entry.
use Rattle.std.proofs.Common.{sym, ap, ◌∙◌}
use Rattle.std.specs.Option.{option_map}
use Rattle.entry_table.proofs.SlotLemmas.{held-entry, slot_held}
use Rattle.entry_table.proofs.SlotSearch.{index-found}
use Rattle.entry_table.specs.Table.{kept_of}
use Rattle.entry_table.proofs.table.held_at.Goals as goal

pub returns-in_err-index_of-clause-entry : goal.returns-in_err-index_of-clause-entry
returns-in_err-index_of-clause-entry c =
    rw c.from_residual.ensures (ap (λ o. option_map (kept_of c.args.number.0) (slot_held o)) (sym c.in_err-index_of.ensures.none) ∙ held-entry c.args.slots.now 2 c.requires.0 c.args.number.0 c.requires.1)

pub returns-clause-held : goal.returns-clause-held
returns-clause-held c =
    let found = index-found c.args.slots.now 2 c.requires.0 c.args.number.0 c.in_ok-index_of.field-0 c.index-slots-branch.result c.requires.1 c.in_ok-index_of.ensures.index in
    c.as_ref.ensures.value ∙ ap slot_held (sym found)

pub returns-clause-entry : goal.returns-clause-entry
returns-clause-entry c =
    let found = index-found c.args.slots.now 2 c.requires.0 c.args.number.0 c.in_ok-index_of.field-0 c.index-slots-branch.result c.requires.1 c.in_ok-index_of.ensures.index in
    ap (option_map (kept_of c.args.number.0)) (c.as_ref.ensures.value ∙ ap slot_held (sym found)) ∙ held-entry c.args.slots.now 2 c.requires.0 c.args.number.0 c.requires.1
