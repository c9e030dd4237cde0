-- The manifest's first file is the one, or it is gone, and a run of files from it on is passed.
use Rattle.std.proofs.Common.{◌+◌, nat_lt, sym, ap, subst, ◌∙◌}
use Rattle.checkout.proofs.FirstFrom.{IsPassed, first-ends, first-goes, first-stays}
use Rattle.checkout.proofs.children.first_left.Goals as goal

pub returns-then-run-eq0 : goal.returns-then-run-eq0
returns-then-run-eq0 c = record { first = first-stays c.args.manifest.now c.args.gone.now c.args.dir c.args.least.0 c.loop-file.from.0 c.in-Some.file c.loop-file.invariant c.in-Some.ensures.first (sym c.run-run.ensures.none ∙ ap (nat_lt 0) c.if-run-eq0.true) }

pub loop-file-preserved : goal.loop-file-preserved
loop-file-preserved c =
    let same = sym c.from.ensures in
    subst (λ n. IsPassed c.args.manifest.now c.args.gone.now c.args.dir c.args.least.0 (c.in-Some.file.0 + n)) same (first-goes c.args.manifest.now c.args.gone.now c.args.dir c.args.least.0 c.loop-file.from.0 c.in-Some.file c.run-run.result c.loop-file.invariant c.in-Some.ensures.first c.run-run.ensures.gone)

pub returns : goal.returns
returns c = record { first = first-ends c.args.manifest.now c.args.gone.now c.args.dir c.args.least.0 c.loop-file.from.0 c.loop-file.invariant c.in_default.ensures.first }
