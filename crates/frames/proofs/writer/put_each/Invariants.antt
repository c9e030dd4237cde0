use Rattle.std.proofs.Common.{take}
use Rattle.std.specs.List.{flat_map}
use Rattle.frames.specs.FrameText.{version_text}
use Rattle.byte_codec.specs.Writing.{Puts}
use Rattle.frames.proofs.writer.put_each.Given as goal

abbrev pub invariant-loop-version : goal.invariant-loop-version
invariant-loop-version l = Puts l.initial.out l.out (flat_map version_text (take l.version-index l.versions))
