-- A number that the last slot up to it doesn't have has none.
use Rattle.std.proofs.Common.{◌≡◌, ◌+◌, ℕ, None, get_or, ap, ◌∙◌, arith}
use Rattle.entry_table.proofs.SlotSearch.{none-up_to}
use Rattle.entry_table.proofs.table.sparse_index_of.Goals as goal

pub returns-in_err-index-clause-none : goal.returns-in_err-index-clause-none
returns-in_err-index-clause-none c =
    rw c.from_residual.ensures (none-up_to c.args.slots.now c.requires.0 c.args.number.0 c.up_to.result c.requires.1 c.up_to.ensures.bound c.up_to.ensures.parted (0, None)
    (λ last at here. c.in_err-index.ensures (let a : c.up_to.result ≡ last + 1 = at in omega arith)))

pub returns-else-slots-index-clause-none : goal.returns-else-slots-index-clause-none
returns-else-slots-index-clause-none c =
    let slot = c.index-slots-index.result in
    none-up_to c.args.slots.now c.requires.0 c.args.number.0 c.up_to.result c.requires.1 c.up_to.ensures.bound c.up_to.ensures.parted slot
    (λ last at here. c.if-slots-index.false (ap (λ (k : ℕ). (get_or c.args.slots.now k slot).0) (let p = c.in_ok-index.ensures.1 in let a : c.up_to.result ≡ last + 1 = at in omega arith) ∙ here))
