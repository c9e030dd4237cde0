use Rattle.std.proofs.Common.{◌<◌, length, take}
use Rattle.std.specs.Io.KnownBytes.{Appends}
use Rattle.links.proofs.writing.write_bytes.Given as goal

abbrev pub invariant-loop : goal.invariant-loop
invariant-loop g l =
    (l.written < length l.bytes)
    × Appends (g.W.Write.contents l.initial.writer) (g.W.Write.contents l.writer) (take l.written l.bytes)
