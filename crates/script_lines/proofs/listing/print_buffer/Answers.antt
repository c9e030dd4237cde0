use Rattle.std.proofs.Common.{◌≡◌, [], ◌∷◌, length, Some, rules}
use Rattle.std.specs.Prelude.{codes}
use Rattle.std.specs.Fmt.{decimal}
use Rattle.std.specs.Option.{option_map}
use Rattle.std.specs.Io.KnownBytes.{Appends}
use Rattle.script_lines.specs.Listed.{listing_of}
use Rattle.script_lines.specs.Printed.{line}
use Rattle.script_lines.proofs.ListedLemmas.{listing_written}
use Rattle.script_lines.proofs.listing.print_buffer.Goals as goal

pub returns-in_ok-writeln-in-Some : goal.returns-in_ok-writeln-in-Some
returns-in_ok-writeln-in-Some g c =
    let counted : option_map length (listing_of c.args.bytes.now) ≡ Some c.in-Some.count = search rules in
    let first : Appends (g.W.Write.contents c.args.out.now) (g.W.Write.contents c.writeln.new.self) (line (codes "listing" ∷ decimal c.in-Some.count ∷ [])) = search rules in
    listing_written c.print_entries.result c.args.bytes.now (listing_of c.args.bytes.now) c.in-Some.count _ _ _ counted first c.print_entries.ensures
