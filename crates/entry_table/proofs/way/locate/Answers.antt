-- The way is gone down again by its names.
use Rattle.std.proofs.Common.{ap, sym, ◌∙◌}
use Rattle.manifest.specs.Tree.{child_of}
use Rattle.entry_table.specs.Slots.{kept_from}
use Rattle.entry_table.specs.Table.{kept_of}
use Rattle.eden_base.proofs.MemberLemmas.{some-none}
use Rattle.entry_table.specs.Entries.{entry_of}
use Rattle.entry_table.proofs.Climbing.{Climbs-split, step-down, no-child-no_file, step-name, step-no_mark}
use Rattle.entry_table.proofs.way.locate.Goals as goal

pub unreachable-requires : goal.unreachable-requires
unreachable-requires c =
    let es = kept_from c.args.slots.now in
    let split = Climbs-split es c.pop.new.self.items c.args.number.0 c.in-Some.number c.loop-number.invariant.top (rw c.in-Some.ensures.items at c.loop-number.invariant.climbs) in
    some-none (entry_of es c.in-Some.number.0) split.1.kept split.1.entry (sym c.in_default-held_at.ensures.entry)

pub unreachable-requires-in_default-place : goal.unreachable-requires-in_default-place
unreachable-requires-in_default-place c =
    let es = kept_from c.args.slots.now in
    let split = Climbs-split es c.pop.new.self.items c.args.number.0 c.in-Some.number c.loop-number.invariant.top (rw c.in-Some.ensures.items at c.loop-number.invariant.climbs) in
    step-no_mark es c.in-Some.number.0 c.loop-number.invariant.top (kept_of c.in-Some.number.0 c.in-Some-held_at.entry.now) c.in_default-place.field-0 split.1 (sym c.in-Some-held_at.ensures.entry) c.in_default-place.is

pub returns-in_err-file-2-clause-found : goal.returns-in_err-file-2-clause-found
returns-in_err-file-2-clause-found c =
    let es = kept_from c.args.slots.now in
    let split = Climbs-split es c.pop.new.self.items c.args.number.0 c.in-Some.number c.loop-number.invariant.top (rw c.in-Some.ensures.items at c.loop-number.invariant.climbs) in
    let name = step-name es c.in-Some.number.0 c.loop-number.invariant.top (kept_of c.in-Some.number.0 c.in-Some-held_at.entry.now) c.in-Linked.parent c.in-Linked.name split.1 (sym c.in-Some-held_at.ensures.entry) c.in-Linked.is in
    rw c.from_residual-in_err-file-2.ensures (λ file at. no-child-no_file c.args.tree.now es c.pop.new.self.items c.args.number.0 c.in-Some.number.0 c.loop-number.invariant.top
    c.loop-number.file file split.0 split.1 c.loop-number.invariant.at (ap (λ m. child_of c.args.tree.now c.loop-number.file m) name ∙ sym c.in_err-file-2.ensures.child) at)

pub loop-number-preserved : goal.loop-number-preserved
loop-number-preserved c =
    let es = kept_from c.args.slots.now in
    let split = Climbs-split es c.pop.new.self.items c.args.number.0 c.in-Some.number c.loop-number.invariant.top (rw c.in-Some.ensures.items at c.loop-number.invariant.climbs) in
    let name = step-name es c.in-Some.number.0 c.loop-number.invariant.top (kept_of c.in-Some.number.0 c.in-Some-held_at.entry.now) c.in-Linked.parent c.in-Linked.name split.1 (sym c.in-Some-held_at.ensures.entry) c.in-Linked.is in
    record {
      top = c.in-Some.number.0;
      climbs = split.0;
      at = step-down c.args.tree.now es c.in-Some.number.0 c.loop-number.invariant.top c.loop-number.file c.in_ok-file-2.file split.1 c.loop-number.invariant.at
          (ap (λ m. child_of c.args.tree.now c.loop-number.file m) name ∙ sym c.in_ok-file-2.ensures.child);
      capacity = c.in-Some.ensures.capacity ∙ c.loop-number.invariant.capacity;
    }
