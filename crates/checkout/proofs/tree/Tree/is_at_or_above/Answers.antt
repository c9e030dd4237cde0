-- None of the files on the way up was the file, until one is, or the way ends.
use Rattle.std.proofs.Common.{◌≡◌, ◌≤◌, sym, ap, subst}
use Rattle.eden_base.specs.declared.number.FileId.{FileId}
use Rattle.manifest.specs.Tree.{Tree, IsTree}
use Rattle.checkout.proofs.StandsAbove.{none_above_next, on_way-ends, on_way-up}
use Rattle.checkout.proofs.tree.Tree.is_at_or_above.Goals as goal

pub returns-in_default : goal.returns-in_default
returns-in_default c =
    let way = c.loop-level.invariant in
    let other : c.args.file ≡ c.loop-level.at → ⊥ = λ same. c.if-at-file.false (ap (λ (f : FileId). f.0) (sym same)) in
    record { above = (λ never. absurd (cc), λ above. absurd (none_above_next c.args.self.now c.in_default.ensures.is_tree c.args.file c.loop-level.at other (way.left above) c.in_default.ensures.dir)) }

pub loop-level-preserved : goal.loop-level-preserved
loop-level-preserved c =
    on_way-up c.args.self.now c.in-Some.ensures.is_tree c.args.file c.args.other c.loop-level.at c.in-Some.dir c.loop-level._level c.loop-level.invariant (λ same. c.if-at-file.false (ap (λ (f : FileId). f.0) (sym same))) c.in-Some.ensures.dir

pub unreachable-requires : goal.unreachable-requires
unreachable-requires c =
    let is = subst IsTree c.self.view_is c.self.invariant.0.is_tree in
    let many = subst (λ (t : Tree). t.next_file ≤ c.loop-level._level) c.self.view_is c.loop-level-test.false in
    on_way-ends c.args.self.now is c.args.file c.args.other c.loop-level.at c.loop-level._level c.loop-level.invariant many
