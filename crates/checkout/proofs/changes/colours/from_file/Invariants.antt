-- None of the files so far is the one.
use Rattle.std.proofs.Common.{◌≡◌, drop}
use Rattle.checkout.specs.Around.{from_file}
use Rattle.checkout.proofs.changes.colours.from_file.Given as goal

abbrev pub invariant-loop-index : goal.invariant-loop-index
invariant-loop-index l = from_file l.file (drop l.index l.files) ≡ from_file l.file l.files
