-- The first slot that isn't empty has the first entry.
use Rattle.std.proofs.Common.{◌∷◌, ◌+◌, ℕ, List, Option, drop, refl, sym, ap, ◌∙◌, arith}
use Rattle.std.proofs.lemmas.List.{drop_more}
use Rattle.entry_table.specs.Slots.{kept_from, first_number}
use Rattle.entry_table.specs.declared.kept.Entry.{Entry}
use Rattle.std.proofs.lemmas.List.{drop_all}
use Rattle.entry_table.proofs.SlotSearch.{first-full, first-empty}
use Rattle.entry_table.proofs.table.first_in.Goals as goal

pub loop-number-init : goal.loop-number-init
loop-number-init c = refl

pub returns-then-is_some : goal.returns-then-is_some
returns-then-is_some c =
    let es = c.args.slots.now in
    let i = c.loop-number.number-index in
    let slot = c.loop-number-item.result in
    let here = drop_more es i slot c.loop-number-test.true ∙ ap (λ (s : ℕ × Option Entry). s ∷ drop (i + 1) es) (sym c.loop-number-item.is) in
    sym (sym c.loop-number.invariant ∙ ap (λ (rest : List (ℕ × Option Entry)). first_number (kept_from rest)) here ∙ first-full slot (drop (i + 1) es) (sym c.is_some.ensures ∙ c.if-is_some.true))

pub loop-number-preserved : goal.loop-number-preserved
loop-number-preserved c =
    let es = c.args.slots.now in
    let i = c.loop-number.number-index in
    let slot = c.loop-number-item.result in
    let here = drop_more es i slot c.loop-number-test.true ∙ ap (λ (s : ℕ × Option Entry). s ∷ drop (i + 1) es) (sym c.loop-number-item.is) in
    ap first_number (sym (first-empty slot (drop (i + 1) es) (sym c.is_some.ensures ∙ c.if-is_some.false))) ∙ ap (λ (rest : List (ℕ × Option Entry)). first_number (kept_from rest)) (sym here) ∙ c.loop-number.invariant

pub returns : goal.returns
returns c =
    let es = c.args.slots.now in
    ap (λ (rest : List (ℕ × Option Entry)). first_number (kept_from rest)) (sym (drop_all c.loop-number.number-index es (let f = c.loop-number-test.false in omega arith))) ∙ c.loop-number.invariant
