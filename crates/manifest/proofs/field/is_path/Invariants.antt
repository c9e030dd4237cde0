-- What is left grows shorter, and as much depends on it as on the whole.
use Rattle.std.proofs.Common.{◌≡◌, length}
use Rattle.std.specs.List.{list_all}
use Rattle.manifest.specs.Names.{is_name}
use Rattle.manifest.specs.Text.{parts}
use Rattle.manifest.proofs.field.is_path.Given as goal

abbrev pub invariant-loop-name : goal.invariant-loop-name
invariant-loop-name l = list_all is_name (parts 47 l.rest) ≡ list_all is_name (parts 47 l.path)

abbrev pub decreases-loop-name : goal.decreases-loop-name
decreases-loop-name l = length l.rest
