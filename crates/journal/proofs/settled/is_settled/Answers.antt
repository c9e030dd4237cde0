-- one worker after another joins the settled ones
use Rattle.std.proofs.Common.{rules, ◌∙◌}
use Rattle.journal.specs.Receipts.{ReceiptsState}
use Rattle.journal.specs.Settled.{IsOf, IsRising}
use Rattle.std.specs.List.{All}
use Rattle.journal.proofs.Settling.{counts_more, goes_on, not_settled, settled_by}
use Rattle.journal.proofs.settled.is_settled.Goals as goal

pub returns-then-not-joins : goal.returns-then-not-joins
returns-then-not-joins c =
    let was = c.loop-kept.invariant in
    record {
      settled = (
        λ no. cc,
        λ settled. absurd (not_settled c.args.journal.now.records c.args.workers.now c.loop-kept.counts.items c.loop-kept.kept-index
            c.kept-item.result c.loop-kept-test.true c.kept-item.is (search rules) (search rules) (search rules) settled),
      );
    }

pub loop-kept-preserved : goal.loop-kept-preserved
loop-kept-preserved c =
    let was = c.loop-kept.invariant in
    let joined = c.joins.ensures in
    let records = c.records-records.result.now in (
      joined.len ∙ was.0,
      goes_on (λ (kept : ReceiptsState). All (IsOf records) kept.list) c.args.workers.now c.loop-kept.kept-index
          c.kept-item.result c.loop-kept-test.true c.kept-item.is (search rules) was.1,
      goes_on (λ (kept : ReceiptsState). IsRising kept.list) c.args.workers.now c.loop-kept.kept-index
          c.kept-item.result c.loop-kept-test.true c.kept-item.is (search rules) was.2,
      λ position here. counts_more c.args.workers.now c.loop-kept.kept-index c.kept-item.result position _ _
          c.loop-kept-test.true c.kept-item.is (was.3 position here) (search rules),
    )

pub returns : goal.returns
returns c = record {
  settled = settled_by c.args.journal.now.records c.args.workers.now c.loop-kept.counts.items c.loop-kept.kept-index
      c.all_once.result c.loop-kept-test.false (search rules) (search rules) (search rules) (search rules) (search rules);
}
