-- What is left grows shorter, and says after what was read what the whole says; each line was read or is left.
use Rattle.std.proofs.Common.{◌≡◌, ◌+◌, [], length}
use Rattle.manifest.specs.ManifestText.{lines_of, read_on}
use Rattle.manifest.proofs.manifest.read_lines.Given as goal

abbrev pub invariant-loop-rest : goal.invariant-loop-rest
invariant-loop-rest l =
    (read_on l.lines (length l.lines + 2) (lines_of l.rest) ≡ read_on [] 2 (lines_of l.bytes)) × (length l.lines + length (lines_of l.rest) ≡ length (lines_of l.bytes))

abbrev pub decreases-loop-rest : goal.decreases-loop-rest
decreases-loop-rest l = length l.rest
