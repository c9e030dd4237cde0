-- An added link's directory, or the line's.
use Rattle.std.proofs.Common.{List, sym, ap, subst, ◌∙◌}
use Rattle.std.specs.Option.{option_copied}
use Rattle.eden_base.specs.declared.number.FileId.{FileId}
use Rattle.checkout.specs.Around.{links_now}
use Rattle.manifest.specs.Tree.{StandsIn}
use Rattle.manifest.specs.Manifest.{Line, line_of}
use Rattle.checkout.proofs.AboveLaws.{above_by_added, above_by_line, none_above_gone, none_above_other}
use Rattle.checkout.proofs.overlay.dir_above.Goals as goal

pub returns-in-Some : goal.returns-in-Some
returns-in-Some c = record { dir = above_by_added c.args.manifest.now c.args.added.now c.args.gone.now c.args.file c.in-Some.dir c.in-Some.ensures }

pub returns-then-has : goal.returns-then-has
returns-then-has c = record { dir = none_above_gone c.args.manifest.now c.args.added.now c.args.gone.now c.args.file c.in_default.ensures (sym c.has.ensures ∙ c.if-has.true) }

pub returns-in_err-line : goal.returns-in_err-line
returns-in_err-line c =
    let none = ap (λ (ls : List Line). line_of ls c.args.file) (sym c.lines.ensures.lines) ∙ sym c.line_of.ensures ∙ ap option_copied c.in_err-line.was in
    rw c.from_residual.ensures (record { dir = none_above_other c.args.manifest.now c.args.added.now c.args.gone.now c.args.file c.in_default.ensures none })

pub returns : goal.returns
returns c =
    let m = c.args.manifest.now in
    let added = c.args.added.now in
    let gone = c.args.gone.now in
    let there = ap (λ (ls : List Line). line_of ls c.args.file) (sym c.lines.ensures.lines) ∙ sym c.line_of.ensures ∙ ap option_copied c.in_ok-line.was in
    let above = above_by_line m added gone c.lines.ensures.is_manifest c.requires.beside c.args.file c.in_ok-line.line.now (sym c.has.ensures ∙ c.if-has.false) there in
    record { dir = subst (λ (d : FileId). StandsIn (links_now m added gone) c.args.file d) (ap (λ (l : Line). l.dir) (sym c.line.view_is)) above }
