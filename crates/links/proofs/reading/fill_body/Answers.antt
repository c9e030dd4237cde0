use Rattle.std.proofs.Common.{arith}
use Rattle.links.proofs.ReadingLaws.{body_fault, body_torn, body_unread}
use Rattle.links.proofs.reading.fill_body.Goals as goal

pub returns-then-is_err-clause-behind : goal.returns-then-is_err-clause-behind
returns-then-is_err-clause-behind g c = (body_unread _ c.args.head.now c.args.len c.requires.five c.requires.len (omega (arith, c.if-len-eq0.false)))

pub returns-in_default-clause-behind : goal.returns-in_default-clause-behind
returns-in_default-clause-behind g c = (body_fault _ _ c.args.head.now c.args.len c.requires.five c.requires.len c.in_default.ensures.refused.1)

pub returns-then-held-len-clause-behind : goal.returns-then-held-len-clause-behind
returns-then-held-len-clause-behind g c = (body_torn _ _ c.args.head.now c.args.len c.in-Ok.held c.fill.new.room c.requires.five c.requires.len c.if-held-len.true c.in-Ok.ensures.filled (c.in-Ok.ensures.end c.if-held-len.true))
