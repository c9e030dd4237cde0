use Rattle.std.proofs.Common.{sym, subst}
use Rattle.inode_map.specs.InodeMap.{MapState}
use Rattle.fuse_ops.specs.Gifts.{served_over}
use Rattle.fuse_ops.specs.Soundness.{IsSound, AreRemembered, AreLoaded}
use Rattle.fuse_ops.proofs.Keeping.{forgotten-sound}
use Rattle.fuse_ops.proofs.Loaded.{forgotten-loaded}
use Rattle.fuse_ops.proofs.Remembering.{forgotten-remembers}
use Rattle.fuse_ops.proofs.served.Served.forget.Goals as goal

pub invariant_of-self : goal.invariant_of-self
invariant_of-self c = (
  c.self.invariant.0,
  subst (λ (map : MapState). IsSound (served_over c.self.inside.tree map)) (sym c.forget.ensures.forgotten)
      (forgotten-sound (served_over c.self.inside.tree c.self.inside.map) c.args.item.node.0 c.args.item.k c.self.invariant.0 c.self.invariant.1),
  subst (λ (map : MapState). AreRemembered (served_over c.self.inside.tree map)) (sym c.forget.ensures.forgotten)
      (forgotten-remembers (served_over c.self.inside.tree c.self.inside.map) c.args.item.node.0 c.args.item.k c.self.invariant.0 c.self.invariant.1 c.self.invariant.2),
  subst (λ (map : MapState). AreLoaded (served_over c.self.inside.tree map)) (sym c.forget.ensures.forgotten)
      (forgotten-loaded (served_over c.self.inside.tree c.self.inside.map) c.args.item.node.0 c.args.item.k c.self.invariant.0 c.self.invariant.1 c.self.invariant.3),
)
