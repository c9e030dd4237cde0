-- Each count stays.
use Rattle.std.proofs.Common.{arith}
use Rattle.directory_index.proofs.Counting.{counts-alike}
use Rattle.directory_index.proofs.counted_index.CountedIndex.trim.Goals as goal

pub returns-clause-same : goal.returns-clause-same
returns-clause-same c at is =
    let bound = c.trim.ensures.bound in
    record {
      below = is.below;
      places = is.places;
      counts = counts-alike is.below c.args.self.now.counts c.trim.new.self c.trim.ensures.same (omega (arith, bound)) is.counts;
    }
