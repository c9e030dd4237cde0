-- What is left of the path grows shorter, and leads to where the whole does.
use Rattle.std.proofs.Common.{◌≡◌, length}
use Rattle.manifest.specs.Text.{front, last}
use Rattle.manifest.specs.Tree.{file_at, root}
use Rattle.manifest.specs.Placing.{names_of, tree_so_far}
use Rattle.manifest.proofs.lines.Lines.walk.Given as goal

abbrev pub invariant-loop-first : goal.invariant-loop-first
invariant-loop-first l =
    (file_at (tree_so_far l.self) l.dir (front (names_of l.rest)) ≡ file_at (tree_so_far l.self) root (front (names_of l.path))) × (last (names_of l.rest) ≡ last (names_of l.path))

abbrev pub decreases-loop-first : goal.decreases-loop-first
decreases-loop-first l = length l.rest
