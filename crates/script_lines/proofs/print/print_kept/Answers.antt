use Rattle.std.proofs.Common.{[], ◌∷◌, rules}
use Rattle.std.specs.Prelude.{codes}
use Rattle.std.specs.Fmt.{decimal}
use Rattle.std.specs.Io.KnownBytes.{Appends}
use Rattle.script_lines.specs.Printed.{spaced}
use Rattle.script_lines.proofs.PrintLemmas.{kept_line_written}
use Rattle.script_lines.proofs.print.print_kept.Goals as goal

pub returns : goal.returns
returns g c = λ kept is.
    let number : Appends (g.W.Write.contents c.args.out.now) (g.W.Write.contents c.write.new.self) (spaced (codes "number" ∷ decimal c.args.number.0 ∷ [])) = search rules in
    kept_line_written c.print_place.result c.args.world.now c.args.daemon kept c.args.number c.args.place.now c.args.count _ _ _ _ is number c.in_ok-print_counts.ensures c.print_place.ensures
