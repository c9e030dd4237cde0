-- An added link's name, or the line's.
use Rattle.std.proofs.Common.{◌≡◌, List, Some, sym, ap, subst, ◌∙◌}
use Rattle.std.specs.FinMap.{get}
use Rattle.std.specs.Option.{option_copied}
use Rattle.checkout.specs.Around.{links_now}
use Rattle.manifest.specs.Manifest.{Line, line_of}
use Rattle.checkout.proofs.AboveLaws.{link_by_added, link_by_line, none_above_gone, none_above_other}
use Rattle.checkout.proofs.overlay.name_of.Goals as goal

pub returns-in-Some : goal.returns-in-Some
returns-in-Some c =
    let found = c.in-Some.ensures in
    record { name = (found.0, link_by_added c.args.manifest.now c.args.added.now c.args.gone.now c.args.file found.0 c.in-Some.name.now found.1) }

pub returns-then-has : goal.returns-then-has
returns-then-has c = record { name = none_above_gone c.args.manifest.now c.args.added.now c.args.gone.now c.args.file c.in_default.ensures (sym c.has.ensures ∙ c.if-has.true) }

pub returns-in_err-line : goal.returns-in_err-line
returns-in_err-line c =
    let none = ap (λ (ls : List Line). line_of ls c.args.file) (sym c.lines.ensures.lines) ∙ sym c.line_of.ensures ∙ ap option_copied c.in_err-line.was in
    rw c.from_residual.ensures (record { name = none_above_other c.args.manifest.now c.args.added.now c.args.gone.now c.args.file c.in_default.ensures none })

pub returns : goal.returns
returns c =
    let m = c.args.manifest.now in
    let added = c.args.added.now in
    let gone = c.args.gone.now in
    let there = ap (λ (ls : List Line). line_of ls c.args.file) (sym c.lines.ensures.lines) ∙ sym c.line_of.ensures ∙ ap option_copied c.in_ok-line.was in
    let line = c.in_ok-line.line.now in
    let link = link_by_line m added gone c.lines.ensures.is_manifest c.requires.beside c.args.file line (sym c.has.ensures ∙ c.if-has.false) there in
    record { name = (line.dir, subst (λ (l : Line). get (links_now m added gone) (line.dir.0, l.name) ≡ Some c.args.file) (sym c.line.view_is) link) }
