-- One byte was taken in, or those of a body.
use Rattle.std.proofs.Common.{arith, refl, sym, subst}
use Rattle.sockets.specs.Passage.{PassesSome}
use Rattle.sockets.proofs.Passages.{above-zero, one-passes, body-passes}
use Rattle.sockets.proofs.passage.Passage.pass_some.Goals as goal

pub returns-then-count-eq0 : goal.returns-then-count-eq0
returns-then-count-eq0 c = record {
  passes = subst (PassesSome c.args.self.now c.args.bytes.now c.pass.new.self) (sym c.split_at.ensures.back)
      (one-passes c.args.self.now c.pass.new.self c.args.bytes.now c.requires.some c.pass.ensures.passed);
}

pub returns : goal.returns
returns c = record {
  passes = subst (PassesSome c.args.self.now c.args.bytes.now _) (sym c.split_at-2.ensures.back)
      (body-passes c.args.self.now _ c.args.bytes.now c.min-count.result (above-zero c.min-count.result c.if-count-eq0.false) (omega (arith, c.min-count.ensures)) (omega (arith, c.min-count.ensures)) refl);
}
