-- The relation that the tree tells is the function of the table.
use Rattle.std.proofs.Common.{◌≡◌, ◌&&◌, subst, rules}
use Rattle.eden_base.specs.declared.attr.Kind.TheVariants.{Dir}
use Rattle.std.specs.Prelude.{Some}
use Rattle.manifest.specs.Tree.{is_dir, kind_of}
use Rattle.fuse_ops.specs.Above.{is_at_or_above}
use Rattle.fuse_ops.specs.Served.{ServedState}
use Rattle.fuse_ops.proofs.MovedKeeps.{holds-is}
use Rattle.fuse_ops.proofs.served.Served.holds.Goals as goal

pub returns-then-eq : goal.returns-then-eq
returns-then-eq c =
    let dir : kind_of c.self.inside.tree c.args.file ≡ Some Dir = search rules in
    subst (λ (s : ServedState). c.is_at_or_above.result ≡ (is_dir (kind_of s.tree c.args.file) && is_at_or_above s.tree c.args.file c.args.dir)) c.self.view_is
    (holds-is c.self.inside.tree c.self.invariant.0 c.args.file c.args.dir c.is_at_or_above.result c.is_at_or_above.ensures.above dir)
