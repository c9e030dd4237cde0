use Rattle.std.proofs.Common.{arith, ◌∙◌}
use Rattle.script_lines.proofs.GatherLemmas.{sum_more}
use Rattle.script_lines.proofs.sums.Sums.add_each.Goals as goal

pub add-requires : goal.add-requires
add-requires g c = record {
  small = λ i lt. omega (arith, c.loop-member.invariant.more i lt, c.requires.small i lt, c.loop-member-test.true);
}

pub loop-member-preserved : goal.loop-member-preserved
loop-member-preserved g c = record {
  low_is = c.add.ensures.added.low ∙ c.loop-member.invariant.low_is;
  sums = λ i lt. sum_more g.M.Lookups.count c.args.members.now c.loop-member.self.low c.args.self.now.low i c.loop-member.member-index _ _ _ c.member-item.result c.member-item.is (c.add.ensures.added.sums i lt) c.loop-member.invariant.low_is (c.loop-member.invariant.sums i lt) c.loop-member-test.true;
  more = λ i lt. omega (arith, c.add.ensures.added.more i lt, c.loop-member.invariant.more i lt);
}
