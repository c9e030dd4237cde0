-- No two neighbours were one file so far.
use Rattle.std.specs.List.{AllAdjacentBelow}
use Rattle.map_codec.proofs.TwiceLaws.{AreNotOne}
use Rattle.map_codec.proofs.entry_checks.are_apart.Given as goal

abbrev pub invariant-loop-i : goal.invariant-loop-i
invariant-loop-i l = AllAdjacentBelow AreNotOne l.files.items l.i
