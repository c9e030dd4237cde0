-- No number of a file is live whose number is not.
use Rattle.std.proofs.Common.{◌≡◌, sym, ap, subst, ◌∙◌, inl, inr, arith}
use Rattle.eden_base.proofs.NumberTests.{false-ne}
use Rattle.manifest.specs.Tree.{IsTree}
use Rattle.entry_table.specs.Entries.{count_of}
use Rattle.fuse_ops.specs.Served.{ServedState, IsLive}
use Rattle.fuse_ops.specs.Soundness.{IsSound}
use Rattle.fuse_ops.proofs.Inodes.{inode-unlive}
use Rattle.fuse_ops.proofs.served.Served.inode.Goals as goal

pub returns-then-count-eq0 : goal.returns-then-count-eq0
returns-then-count-eq0 c = record {
  inode = λ file names. inode-unlive c.args.self.now (subst (λ (s : ServedState). IsTree s.tree) c.self.view_is c.self.invariant.0) (subst IsSound c.self.view_is c.self.invariant.1) c.args.number.0 file unlive names;
} where
  unlive : IsLive c.args.self.now c.args.number.0 → ⊥
  unlive (inl one) = false-ne c.args.number.0 1 (sym c.if-eq.ensures) one
  unlive (inr some) =
      let counted : c.count.result ≡ count_of c.args.self.now.map.entries c.args.number.0 = c.count.ensures.count ∙ ap (λ (s : ServedState). count_of s.map.entries c.args.number.0) c.self.view_is in
      let zero = c.if-count-eq0.true in omega arith
