-- Each of the four cells loses the key.
use Rattle.std.proofs.Common.{◌==◌}
use Rattle.key_map.specs.Cells.{in_cell}
use Rattle.key_map.proofs.BucketLemmas.{cells-removed}
use Rattle.key_map.proofs.bucket.Bucket.remove.Goals as goal

pub returns-clause-removed : goal.returns-clause-removed
returns-clause-removed c k =
    cells-removed (k == c.args.key) (in_cell k c.args.self.now.first) (in_cell k c.args.self.now.second) (in_cell k c.args.self.now.third) (in_cell k c.args.self.now.fourth)
    (c.empty.ensures.emptied k) (c.empty-2.ensures.emptied k) (c.empty-3.ensures.emptied k) (c.empty-4.ensures.emptied k)
