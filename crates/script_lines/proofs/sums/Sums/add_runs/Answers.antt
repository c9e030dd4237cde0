use Rattle.std.proofs.Common.{arith, ◌∙◌}
use Rattle.script_lines.proofs.GatherLemmas.{ends_within, sum_of_run}
use Rattle.script_lines.proofs.sums.Sums.add_runs.Goals as goal

pub loop-at-preserved : goal.loop-at-preserved
loop-at-preserved g c =
    let before = c.loop-at.invariant in
    let added = c.add_each.ensures.added in
    record {
      within = ends_within c.args.queue.now.members c.run_from-run.result.now c.loop-at.at before.within c.run_from-run.ensures.run;
      low_is = added.low ∙ before.low_is;
      sums = λ i lt. sum_of_run g.M.Lookups.count c.args.queue.now.members c.run_from-run.result.now c.loop-at.self.low c.args.self.now.low i c.loop-at.at _ _ _ c.run_from-run.ensures.run (added.sums i lt) before.low_is (before.sums i lt);
      more = λ i lt. omega (arith, added.more i lt, before.more i lt);
    }
