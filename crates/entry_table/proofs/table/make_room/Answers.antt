-- Without the empty slots the entries are the same.
use Rattle.std.proofs.Common.{ap, sym, ◌∙◌, subst, length, rules}
use Rattle.std.proofs.lemmas.Fn.{filter_same}
use Rattle.entry_table.specs.Slots.{kept_from, file_beside, note_beside, files_from, notes_from, AreSlots}
use Rattle.entry_table.proofs.SlotGrowth.{is_full, full-slots, full-kept, full-length, full-beside}
use Rattle.entry_table.proofs.table.make_room.Goals as goal

pub returns-clause-entries : goal.returns-clause-entries
returns-clause-entries c =
    let left = c.try_reserve_exact.ensures.items ∙ filter_same _ is_full _ (λ x b f r. search rules) _ _ c.retain.ensures.filtered in
    ap kept_from left ∙ full-kept c.args.slots.now.items

pub returns-clause-files : goal.returns-clause-files
returns-clause-files c =
    let left = c.try_reserve_exact.ensures.items ∙ filter_same _ is_full _ (λ x b f r. search rules) _ _ c.retain.ensures.filtered in
    ap files_from left ∙ full-beside file_beside c.args.slots.now.items

pub returns-clause-notes : goal.returns-clause-notes
returns-clause-notes c =
    let left = c.try_reserve_exact.ensures.items ∙ filter_same _ is_full _ (λ x b f r. search rules) _ _ c.retain.ensures.filtered in
    ap notes_from left ∙ full-beside note_beside c.args.slots.now.items

pub returns-clause-numbers : goal.returns-clause-numbers
returns-clause-numbers c = λ next are.
    let left = c.try_reserve_exact.ensures.items ∙ filter_same _ is_full _ (λ x b f r. search rules) _ _ c.retain.ensures.filtered in
    subst (AreSlots 2 next) (sym left) (full-slots c.args.slots.now.items 2 next are)

pub returns-clause-struck : goal.returns-clause-struck
returns-clause-struck c full =
    let left = c.try_reserve_exact.ensures.items ∙ filter_same _ is_full _ (λ x b f r. search rules) _ _ c.retain.ensures.filtered in
    c.try_reserve_exact.new.self.ok.0 ∙ ap length left ∙ full-length c.args.slots.now.items
