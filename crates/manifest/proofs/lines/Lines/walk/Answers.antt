-- A path's first name leads to where the rest goes on.
use Rattle.std.proofs.Common.{ap, sym, ◌∙◌}
use Rattle.std.specs.Option.{option_and_then}
use Rattle.eden_base.specs.declared.number.FileId.{FileId}
use Rattle.manifest.specs.Text.{front, last}
use Rattle.manifest.specs.Tree.{file_at}
use Rattle.manifest.specs.Placing.{names_of, tree_so_far}
use Rattle.manifest.proofs.TextLemmas.{parts-cut, parts-no_cut, front-more, last-more}
use Rattle.manifest.proofs.lines.Lines.walk.Goals as goal

pub returns-in_err-dir : goal.returns-in_err-dir
returns-in_err-dir c =
    let tree = tree_so_far c.args.self.now in
    let dir = c.loop-first.dir in
    let name = c.in-Some.first.now in
    let rest = front (names_of c.in-Some.after.now) in
    let child = sym c.child.ensures ∙ c.in_err-dir.was in
    let first = parts-cut 47 c.loop-first.rest.now name c.in-Some.after.now (sym c.in-Some.ensures.parts) in
    let none = sym c.loop-first.invariant.0 ∙ ap (file_at tree dir) (ap front first ∙ front-more 47 name c.in-Some.after.now)
    ∙ ap (option_and_then (λ (f : FileId). file_at tree f rest)) child in
    rw c.from_residual.ensures none

pub loop-first-preserved : goal.loop-first-preserved
loop-first-preserved c =
    let tree = tree_so_far c.args.self.now in
    let dir = c.loop-first.dir in
    let name = c.in-Some.first.now in
    let rest = front (names_of c.in-Some.after.now) in
    let child = sym c.child.ensures ∙ c.in_ok-dir.was in
    let first = parts-cut 47 c.loop-first.rest.now name c.in-Some.after.now (sym c.in-Some.ensures.parts) in
    let whole = sym c.loop-first.invariant.0 ∙ ap (file_at tree dir) (ap front first ∙ front-more 47 name c.in-Some.after.now)
    ∙ ap (option_and_then (λ (f : FileId). file_at tree f rest)) child in
    (sym whole, sym (ap last first ∙ last-more 47 name c.in-Some.after.now) ∙ c.loop-first.invariant.1)

pub returns : goal.returns
returns c =
    let tree = tree_so_far c.args.self.now in
    let only = parts-no_cut 47 c.loop-first.rest.now (sym c.in_default.ensures.parts) in
    (sym c.loop-first.invariant.0 ∙ ap (λ ps. file_at tree c.loop-first.dir (front ps)) only, sym (ap last only) ∙ c.loop-first.invariant.1)
