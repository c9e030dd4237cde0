use Rattle.std.proofs.Common.{◌-◌, ◌^◌, false, [], rules}
use Rattle.std.specs.Prelude.{OnOk}
use Rattle.std.specs.Fmt.{digits, padded_integral, format_spec}
use Rattle.std.specs.Io.KnownBytes.{Appends}
use Rattle.script_lines.proofs.OctalLemmas.{octal-written}
use Rattle.script_lines.proofs.print.print_perm.Goals as goal

pub returns : goal.returns
returns g c =
    let written : OnOk c.write.result (Appends (g.W.Write.contents c.args.out.now) (g.W.Write.contents c.write.new.self) (padded_integral (format_spec 32 0 4 4 (2 ^ 64 - 1)) false [] (digits 8 false c.args.perm.bits))) = search rules in
    octal-written c.write.result _ _ c.args.perm.bits c.args.perm.in_range written
