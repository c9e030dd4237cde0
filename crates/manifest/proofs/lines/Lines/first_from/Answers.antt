-- The file of the id has its line in the directory, or the index has the first file of its lines.
use Rattle.std.proofs.Common.{Some, sym, ap, ◌∙◌}
use Rattle.std.specs.Option.{option_copied}
use Rattle.manifest.specs.Manifest.{line_of}
use Rattle.manifest.specs.Places.{standing_of}
use Rattle.manifest.specs.Tree.{links_from, IsFirstFrom}
use Rattle.manifest.proofs.FirstFile.{first-few, first-file, first-here}
use Rattle.manifest.proofs.lines.Lines.first_from.Goals as goal

here : (c : goal.Then-line-dir) → IsFirstFrom (links_from 2 c.self.inside.lines.items) c.args.dir c.args.least.0 (Some c.args.least)
here c =
    let line = ap (λ ls. line_of ls c.args.least) (sym c.as_slice.ensures.value) ∙ sym c.line_of.ensures ∙ ap option_copied c.in-Some.is in
    first-here c.self.inside.lines.items c.self.invariant.0 c.args.dir c.args.least c.in-Some.line.now line (ap (λ l. l.dir.0) (sym c.line.view_is) ∙ c.if-line-dir.true)

pub returns-clause-first : goal.returns-clause-first
returns-clause-first c = rw (← c.self.view_is) (here c)

pub returns-clause-few : goal.returns-clause-few
returns-clause-few c = first-few c.self.inside.lines.items c.self.invariant.0 c.args.dir c.args.least.0 (Some c.args.least) (here c)

pub returns-2-clause-first : goal.returns-2-clause-first
returns-2-clause-first c =
    let lines = c.self.inside.lines.items in
    rw (← c.self.view_is) (first-file (links_from 2 lines) c.args.dir c.args.least.0 c.first_from.result c.map.result (c.first_from.ensures.first (standing_of lines) c.self.invariant.1) c.map.ensures.cases)

pub returns-2-clause-few : goal.returns-2-clause-few
returns-2-clause-few c =
    let lines = c.self.inside.lines.items in
    first-few lines c.self.invariant.0 c.args.dir c.args.least.0 c.map.result (first-file (links_from 2 lines) c.args.dir c.args.least.0 c.first_from.result c.map.result (c.first_from.ensures.first (standing_of lines) c.self.invariant.1) c.map.ensures.cases)
