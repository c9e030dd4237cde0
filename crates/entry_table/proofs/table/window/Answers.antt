-- The first slot and the last tell between which indexes the slots up to a number end.
use Rattle.std.proofs.Common.{sym, arith}
use Rattle.entry_table.proofs.SlotWindow.{before-last, behind-first, window-order}
use Rattle.entry_table.proofs.table.window.Goals as goal

pub returns-clause-before : goal.returns-clause-before
returns-clause-before c k d zero less =
    before-last c.args.slots.now 2 c.requires.0 c.args.number.0 k d c.in-Some-Some.last.now c.requires.1 (sym c.in-Some-Some.ensures'.value) (omega arith)

pub returns-clause-behind : goal.returns-clause-behind
returns-clause-behind c k d from less =
    behind-first c.args.slots.now 2 c.requires.0 c.args.number.0 k d c.in-Some-Some.first.now c.requires.1 (sym c.in-Some-Some.ensures.value) (omega arith) less

pub returns-clause-order : goal.returns-clause-order
returns-clause-order c =
    let order = window-order c.args.slots.now 2 c.requires.0 c.args.number.0 c.in-Some-Some.first.now c.in-Some-Some.last.now c.requires.1 (sym c.in-Some-Some.ensures.value) (sym c.in-Some-Some.ensures'.value) in
    omega arith
