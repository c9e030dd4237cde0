-- Some more bytes were taken in.
use Rattle.std.proofs.Common.{Bool, ◌||◌, sym, subst, ap, ◌∙◌}
use Rattle.sockets.specs.Passage.{is_between}
use Rattle.sockets.proofs.Passages.{Took, took-more}
use Rattle.sockets.proofs.passage.Passage.pass_all.Goals as goal

pub loop-left-preserved-then-ended : goal.loop-left-preserved-then-ended
loop-left-preserved-then-ended c =
    subst (Took c.args.self.now c.args.bytes.now c.pass_some-left.new.self c.pass_some-left.result.now)
    (ap (λ (b : Bool). b || is_between c.pass_some-left.new.self) c.if-ended.true ∙ sym c.if-ended.true)
    (took-more c.args.self.now c.loop-left.self c.pass_some-left.new.self c.args.bytes.now c.loop-left.left.now c.pass_some-left.result.now c.loop-left.ended c.loop-left.invariant c.pass_some-left.ensures.passes)

pub loop-left-preserved : goal.loop-left-preserved
loop-left-preserved c =
    subst (Took c.args.self.now c.args.bytes.now c.pass_some-left.new.self c.pass_some-left.result.now)
    (ap (λ (b : Bool). b || is_between c.pass_some-left.new.self) c.if-ended.false ∙ sym c.is_between-ended.ensures.between)
    (took-more c.args.self.now c.loop-left.self c.pass_some-left.new.self c.args.bytes.now c.loop-left.left.now c.pass_some-left.result.now c.loop-left.ended c.loop-left.invariant c.pass_some-left.ensures.passes)
