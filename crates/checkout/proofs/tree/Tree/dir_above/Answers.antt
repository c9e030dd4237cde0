-- The overlay's links are the tree's.
use Rattle.std.proofs.Common.{subst}
use Rattle.manifest.specs.Tree.{Tree}
use Rattle.checkout.specs.Around.{IsDirAbove}
use Rattle.checkout.proofs.tree.Tree.dir_above.Goals as goal

pub returns-clause-dir : goal.returns-clause-dir
returns-clause-dir c = subst (λ (t : Tree). IsDirAbove t.links c.args.file c.dir_above.result) c.self.view_is c.dir_above.ensures.dir
