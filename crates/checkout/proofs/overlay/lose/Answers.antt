-- The line's file is new among those that are gone, and both counts have room.
use Rattle.std.proofs.Common.{List, Some, None, sym, ap, ◌∙◌}
use Rattle.std.specs.Option.{option_copied}
use Rattle.checkout.proofs.AboveLaws.{base_of_line}
use Rattle.checkout.proofs.TakenLaws.{has_room, take-AreTaken}
use Rattle.manifest.specs.Manifest.{Line, line_of}
use Rattle.manifest.specs.declared.link_change.LinkChange.{LinkChange}
use Rattle.checkout.proofs.overlay.lose.Goals as goal

pub add-requires-clause-room : goal.add-requires-clause-room
add-requires-clause-room c =
    let m = c.args.manifest.now in
    let line = c.in-Some-line_of.line.now in
    let change : LinkChange = record { dir = line.dir; name = line.name; target = None } in
    let at = ap (λ (ls : List Line). line_of ls c.in-Some.target) (sym c.lines.ensures.lines) ∙ sym c.line_of.ensures ∙ ap option_copied c.in-Some-line_of.is in
    (has_room m c.lines.ensures.is_manifest c.args.gone.now c.args.lost.now c.requires.so_far change c.in-Some.target (base_of_line m c.lines.ensures.is_manifest c.in-Some.target line at)).file_within

pub raise-requires-clause-room : goal.raise-requires-clause-room
raise-requires-clause-room c =
    let m = c.args.manifest.now in
    let line = c.line.inside in
    let change : LinkChange = record { dir = line.dir; name = line.name; target = None } in
    let at = ap (λ (ls : List Line). line_of ls c.in-Some.target) (sym c.lines.ensures.lines) ∙ sym c.line_of.ensures ∙ ap option_copied c.in-Some-line_of.is ∙ ap (λ (l : Line). Some l) (sym c.line.view_is) in
    (has_room m c.lines.ensures.is_manifest c.args.gone.now c.args.lost.now c.requires.so_far change c.in-Some.target (base_of_line m c.lines.ensures.is_manifest c.in-Some.target _ at)).dir_within

pub raise-requires-clause-fits : goal.raise-requires-clause-fits
raise-requires-clause-fits c =
    let m = c.args.manifest.now in
    let line = c.line.inside in
    let change : LinkChange = record { dir = line.dir; name = line.name; target = None } in
    let at = ap (λ (ls : List Line). line_of ls c.in-Some.target) (sym c.lines.ensures.lines) ∙ sym c.line_of.ensures ∙ ap option_copied c.in-Some-line_of.is ∙ ap (λ (l : Line). Some l) (sym c.line.view_is) in
    (has_room m c.lines.ensures.is_manifest c.args.gone.now c.args.lost.now c.requires.so_far change c.in-Some.target (base_of_line m c.lines.ensures.is_manifest c.in-Some.target _ at)).fits

pub returns-clause-now : goal.returns-clause-now
returns-clause-now c =
    let m = c.args.manifest.now in
    let line = c.line.inside in
    let change : LinkChange = record { dir = line.dir; name = line.name; target = None } in
    let at = ap (λ (ls : List Line). line_of ls c.in-Some.target) (sym c.lines.ensures.lines) ∙ sym c.line_of.ensures ∙ ap option_copied c.in-Some-line_of.is ∙ ap (λ (l : Line). Some l) (sym c.line.view_is) in
    let left = sym c.has.ensures ∙ c.if-has.false in
    take-AreTaken m c.lines.ensures.is_manifest c.args.gone.now c.args.lost.now c.requires.so_far change c.in-Some.target (base_of_line m c.lines.ensures.is_manifest c.in-Some.target _ at) left c.add.new.self c.raise.new.self c.add.ensures.files c.add.ensures.room c.raise.ensures.counts c.raise.ensures.room
