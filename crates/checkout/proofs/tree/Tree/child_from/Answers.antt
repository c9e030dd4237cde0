-- The overlay's links are the tree's.
use Rattle.std.proofs.Common.{Some, None, subst}
use Rattle.manifest.specs.Tree.{Tree, IsFirstFrom}
use Rattle.checkout.proofs.tree.Tree.child_from.Goals as goal

pub returns-in_err-file-clause-first : goal.returns-in_err-file-clause-first
returns-in_err-file-clause-first c = rw c.from_residual.ensures (subst (λ (t : Tree). IsFirstFrom t.links c.args.dir c.args.least.0 None) c.self.view_is c.in_err-file.ensures.first)

pub returns-in_err-name-clause-first : goal.returns-in_err-name-clause-first
returns-in_err-name-clause-first c = absurd (c.in_err-name.ensures.name c.args.dir c.in_ok-file.ensures.first.0)

pub returns-clause-first : goal.returns-clause-first
returns-clause-first c = subst (λ (t : Tree). IsFirstFrom t.links c.args.dir c.args.least.0 (Some c.in_ok-file.file)) c.self.view_is c.in_ok-file.ensures.first
