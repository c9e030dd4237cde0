-- The way is climbed a number after another.
use Rattle.std.proofs.Common.{◌≤◌, refl, sym, ◌∙◌, arith, length}
use Rattle.entry_table.specs.Entries.{is_root, is_marked}
use Rattle.entry_table.specs.Slots.{kept_from}
use Rattle.entry_table.specs.Table.{kept_of}
use Rattle.entry_table.proofs.Climbing.{Climbs-append, long-no_file, unknown-way, step-read, ne-tested, eq-tested}
use Rattle.entry_table.proofs.SlotLemmas.{kept-len}
use Rattle.entry_table.proofs.way.climb.Goals as goal

pub returns-in_err-parent-clause-way : goal.returns-in_err-parent-clause-way
returns-in_err-parent-clause-way c = rw c.from_residual.ensures (λ tree file at.
    unknown-way tree (kept_from c.args.slots.now) c.loop-number.way.items c.args.number.0 c.loop-number.number.0 file c.loop-number.invariant.climbs
    (ne-tested _ _ c.loop-number-test.ensures) (sym c.in_err-parent.ensures.entry) at)

pub returns-then-len-slots-clause-way : goal.returns-then-len-slots-clause-way
returns-then-len-slots-clause-way c = λ tree file at.
    let es = kept_from c.args.slots.now in
    let step = step-read es c.loop-number.number.0 (kept_of c.loop-number.number.0 c.in_ok-parent.field-0.now) c.in-Linked.parent c.in-Linked.name
    (ne-tested _ _ c.loop-number-test.ensures) (sym c.in_ok-parent.ensures.entry) c.in-Linked.is in
    let few : length es ≤ length c.args.slots.now = kept-len c.args.slots.now in
    long-no_file tree es c.loop-number.way.items c.args.number.0 c.loop-number.number c.in-Linked.parent.0 file c.loop-number.invariant.climbs step (let l = c.len.ensures in let e = c.if-len-slots.true in let v = c.loop-number.way.ok.0 in omega arith) at

pub loop-number-preserved : goal.loop-number-preserved
loop-number-preserved c =
    let es = kept_from c.args.slots.now in
    let step = step-read es c.loop-number.number.0 (kept_of c.loop-number.number.0 c.in_ok-parent.field-0.now) c.in-Linked.parent c.in-Linked.name
    (ne-tested _ _ c.loop-number-test.ensures) (sym c.in_ok-parent.ensures.entry) c.in-Linked.is in
    record {
      climbs = rw c.push_reserved.ensures.items (Climbs-append es c.loop-number.way.items c.args.number.0 c.loop-number.number c.in-Linked.parent.0 c.loop-number.invariant.climbs step);
      long = let l = c.len.ensures in let f = c.if-len-slots.false in let p = c.push_reserved.ensures.len in let b = c.loop-number.invariant.long in omega arith;
      capacity = c.push_reserved.ensures.capacity ∙ c.loop-number.invariant.capacity;
    }

pub returns-in-Unlinked-clause-way : goal.returns-in-Unlinked-clause-way
returns-in-Unlinked-clause-way c = record {
  top = c.loop-number.number.0;
  climbs = c.loop-number.invariant.climbs;
  names = λ tree. is_marked c.loop-number.number.0 c.in-Unlinked.file (kept_of c.loop-number.number.0 c.in_ok-parent.field-0.now) (ne-tested _ _ c.loop-number-test.ensures)
      (sym c.in_ok-parent.ensures.entry) c.in-Unlinked.is;
}

pub returns-clause-way : goal.returns-clause-way
returns-clause-way c = record {
  top = c.loop-number.number.0;
  climbs = c.loop-number.invariant.climbs;
  names = λ tree. is_root c.loop-number.number.0 (record { 0 = 1 }) (eq-tested _ _ c.loop-number-test.ensures) refl;
}
