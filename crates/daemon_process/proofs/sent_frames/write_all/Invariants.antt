-- The frames that are taken off were written. Each pass writes one of those that are left.
use Rattle.std.proofs.Common.{◌≡◌, List, ◌++◌, length}
use Rattle.frames.specs.declared.frame.Frame.{Frame}
use Rattle.daemon_process.specs.SentFrames.{SendsAll}
use Rattle.daemon_process.proofs.sent_frames.write_all.Given as goal

abbrev pub invariant-loop-frame : goal.invariant-loop-frame
invariant-loop-frame g l =
    (before : List Frame) × (l.fn.frames ≡ before ++ l.left)
    × SendsAll before (g.W.Write.contents l.fn.writer) (g.W.Write.contents l.writer)

abbrev pub decreases-loop-frame : goal.decreases-loop-frame
decreases-loop-frame g l = length l.left
