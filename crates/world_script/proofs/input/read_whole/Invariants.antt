use Rattle.std.proofs.Common.{◌≤◌, [], length}
use Rattle.world_script.specs.Input.{Reads}
use Rattle.world_script.proofs.input.read_whole.Given as goal

abbrev pub invariant-loop : goal.invariant-loop
invariant-loop g l = (length l.bytes.items ≤ 1048576) × Reads (g.R.Read.remaining l.initial.reader) [] (g.R.Read.remaining l.reader) l.bytes.items
