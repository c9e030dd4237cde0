-- One file more is set.
use Rattle.std.proofs.Common.{true, ◌∙◌}
use Rattle.checkout.proofs.ColourLaws.{set_next}
use Rattle.checkout.proofs.changes.colours.Colours.mark_circle.Goals as goal

pub loop-file-preserved : goal.loop-file-preserved
loop-file-preserved c = λ file. set_next true c.args.files.now c.loop-file.file-index _ c.loop-file.self c.set.new.self c.loop-file-test.true c.in_ok-set.ensures file ∙ c.loop-file.invariant file
