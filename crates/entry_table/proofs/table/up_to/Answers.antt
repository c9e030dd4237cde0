-- Numbers rise, so those up to one stand first.
use Rattle.std.proofs.Common.{ℕ, ◌-◌, Option, take, drop, leb, leb-true, leb-false, rules, arith}
use Rattle.std.proofs.lemmas.List.Sorted.{IsPartitionPoint-from_clause, IsPartitionedBy-leb}
use Rattle.entry_table.specs.declared.kept.Entry.{Entry}
use Rattle.entry_table.proofs.SlotWindow.{part-does_not_fall, part-length, parted-by_part}
use Rattle.entry_table.proofs.table.up_to.Goals as goal

pub returns-clause-parted : goal.returns-clause-parted
returns-clause-parted c =
    let es = c.args.slots.now in
    let n = c.args.number.0 in
    let start = c.window-start.result.0 in
    let end = c.window-start.result.1 in
    let w = c.window-start.ensures in
    let part = take (end - start) (drop start es) in
    let parted = IsPartitionedBy-leb (λ (slot : ℕ × Option Entry). slot.0) part n (part-does_not_fall es 2 c.requires.0 start end c.requires.1 w.bound) in
    let point = IsPartitionPoint-from_clause (λ (slot : ℕ × Option Entry). leb slot.0 n) part c.partition_point.result c.partition_point.ensures.partitioned parted (λ a r q k. search rules) in
    let len = part-length es start end w.bound in
    parted-by_part es n start end c.partition_point.result w.order w.bound (let short = c.partition_point.ensures.bound in omega arith) w.before w.behind
    (λ k d a b. leb-true _ _ (point.0 k d a b), λ k d a b. leb-false _ _ (point.1 k d a b))
