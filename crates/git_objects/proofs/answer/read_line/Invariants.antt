use Rattle.std.specs.Io.KnownBytes.{Consumes}
use Rattle.git_objects.proofs.answer.read_line.Given as goal

abbrev pub invariant-loop-byte : goal.invariant-loop-byte
invariant-loop-byte g l = Consumes (g.I.Read.remaining l.initial.input) (g.I.Read.remaining l.input) l.line.items
