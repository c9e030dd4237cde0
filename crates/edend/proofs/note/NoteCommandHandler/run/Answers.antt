-- The command is noted, and nothing is printed.
use Rattle.std.proofs.Common.{refl}
use Rattle.std.proofs.KnownBytes.{Keeps-refl}
use Rattle.edend.proofs.note.NoteCommandHandler.run.Goals as goal

pub returns : goal.returns
returns g c = record {
  ends = ((c.in-Some.noted, refl, c.in-Some.ensures.same), Keeps-refl (g.W.Write.contents c.args._out.now));
}
