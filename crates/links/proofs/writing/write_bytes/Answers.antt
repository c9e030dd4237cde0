use Rattle.std.proofs.Common.{arith}
use Rattle.links.proofs.WritingLaws.{left_grown, within_left}
use Rattle.links.proofs.writing.write_bytes.Goals as goal

pub loop-preserved : goal.loop-preserved
loop-preserved g c = (
  omega (arith, c.loop.invariant.0, within_left c.loop.written c.in-Ok.count c.args.bytes.now c.in-Ok.ensures.within, c.if-written-bytes.false),
  left_grown _ _ _ c.loop.written c.in-Ok.count c.args.bytes.now c.loop.invariant.1 c.in-Ok.ensures.written,
)
