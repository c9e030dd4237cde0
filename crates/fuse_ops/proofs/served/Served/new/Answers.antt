-- What is served at first: a map of no entry, which remembers and loads nothing.
use Rattle.std.proofs.Common.{◌≡◌, ℕ, sym, subst}
use Rattle.manifest.specs.Tree.{Tree}
use Rattle.inode_map.specs.InodeMap.{MapState, new_map}
use Rattle.fuse_ops.specs.Gifts.{served_over}
use Rattle.fuse_ops.specs.Soundness.{IsSound, AreRemembered, AreLoaded}
use Rattle.fuse_ops.proofs.GivingLaw.{new-sound}
use Rattle.fuse_ops.proofs.served.Served.new.Goals as goal

remembers-none : (tree : Tree) (limit : ℕ) → AreRemembered (served_over tree (new_map limit))
remembers-none tree limit n file e = absurd (let none : ⊥ = cc in none)

loads-none : (tree : Tree) (limit : ℕ) → AreLoaded (served_over tree (new_map limit))
loads-none tree limit n attr e = absurd (let none : ⊥ = cc in none)

pub invariant_of-result : goal.invariant_of-result
invariant_of-result c =
    let tree : Tree = c.in_ok-tree.tree in
    let map : c.in_ok-map.map ≡ new_map c.max.result = c.in_ok-map.ensures.new in (
      c.in_ok-tree.ensures.is_tree,
      subst (λ (m : MapState). IsSound (served_over tree m)) (sym map) (new-sound tree c.max.result c.in_ok-tree.ensures.is_tree),
      subst (λ (m : MapState). AreRemembered (served_over tree m)) (sym map) (remembers-none tree c.max.result),
      subst (λ (m : MapState). AreLoaded (served_over tree m)) (sym map) (loads-none tree c.max.result),
    )
