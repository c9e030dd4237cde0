-- A file that is none of the manifest's is not there.
use Rattle.std.proofs.Common.{false, sym, rules, ◌≡◌}
use Rattle.checkout.specs.Overlay.{is_line}
use Rattle.checkout.proofs.TakenLaws.{not_there}
use Rattle.checkout.proofs.overlay.is_there.Goals as goal

pub returns-then-not-is_line : goal.returns-then-not-is_line
returns-then-not-is_line c =
    let none : is_line c.args.manifest.now c.in-Some.file ≡ false = search rules in
    sym (not_there c.args.manifest.now c.args.link.now c.in-Some.file c.in-Some.is none)
