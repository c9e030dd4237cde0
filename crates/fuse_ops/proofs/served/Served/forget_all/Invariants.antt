use Rattle.std.proofs.Common.{◌≡◌, drop}
use Rattle.fuse_ops.specs.Served.{forgotten_all}
use Rattle.fuse_ops.proofs.served.Served.forget_all.Given as goal

-- the items that are left, applied to what is kept now, make what all make of the beginning
abbrev pub invariant-loop-item : goal.invariant-loop-item
invariant-loop-item l = (forgotten_all l.self.map (drop l.item-index l.items) ≡ forgotten_all l.initial.self.map l.items) × (l.self.tree ≡ l.initial.self.tree)
