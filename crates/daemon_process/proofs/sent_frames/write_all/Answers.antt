-- Frames are written in their order.
use Rattle.std.proofs.Common.{[], refl}
use Rattle.daemon_process.proofs.FramesSent.{ends, passes, sends_none, stops}
use Rattle.daemon_process.proofs.sent_frames.write_all.Goals as goal

-- nothing is written yet
pub loop-frame-init : goal.loop-frame-init
loop-frame-init g c = ([], refl, sends_none _)

-- one more is written, and dropped by its kind
pub loop-frame-preserved : goal.loop-frame-preserved
loop-frame-preserved g c = passes _ _ _ _ _ _ _ c.loop-frame.invariant c.in-Some.ensures.next c.in-Ok.ensures.writes

pub loop-frame-preserved-in-Ok : goal.loop-frame-preserved-in-Ok
loop-frame-preserved-in-Ok g c = passes _ _ _ _ _ _ _ c.loop-frame.invariant c.in-Some.ensures.next c.in-Ok.ensures.writes

pub loop-frame-preserved-in-Ok-2 : goal.loop-frame-preserved-in-Ok-2
loop-frame-preserved-in-Ok-2 g c = passes _ _ _ _ _ _ _ c.loop-frame.invariant c.in-Some.ensures.next c.in-Ok.ensures.writes

pub loop-frame-preserved-in-Ok-3 : goal.loop-frame-preserved-in-Ok-3
loop-frame-preserved-in-Ok-3 g c = passes _ _ _ _ _ _ _ c.loop-frame.invariant c.in-Some.ensures.next c.in-Ok.ensures.writes

pub loop-frame-preserved-in-Ok-4 : goal.loop-frame-preserved-in-Ok-4
loop-frame-preserved-in-Ok-4 g c = passes _ _ _ _ _ _ _ c.loop-frame.invariant c.in-Some.ensures.next c.in-Ok.ensures.writes

pub loop-frame-preserved-in-Ok-5 : goal.loop-frame-preserved-in-Ok-5
loop-frame-preserved-in-Ok-5 g c = passes _ _ _ _ _ _ _ c.loop-frame.invariant c.in-Some.ensures.next c.in-Ok.ensures.writes

-- the next one is not written
pub returns-in-Err : goal.returns-in-Err
returns-in-Err g c =
    let was = c.loop-frame.invariant in
    record { sends = stops _ was.0 _ _ c.in-Some.frame _ _ _ _ was.1 c.in-Some.ensures.next was.2 c.in-Err.ensures.writes }

-- all are
pub returns : goal.returns
returns g c =
    let was = c.loop-frame.invariant in
    record { sends = ends _ was.0 _ _ _ was.1 c.in_default.ensures.next.0 was.2 }
