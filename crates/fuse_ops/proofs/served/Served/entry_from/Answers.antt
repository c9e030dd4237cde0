-- A directory that a name leads to has itself first, and then the directory above it.
use Rattle.std.proofs.Common.{◌≡◌, ℕ, false, sym, ap, subst, ◌∙◌}
use Rattle.checkout.specs.ChangedTree.{is_unlinked}
use Rattle.fuse_ops.specs.Listing.{IsFirstEntry}
use Rattle.fuse_ops.specs.Served.{IsInode}
use Rattle.fuse_ops.specs.Work.{lacks_name}
use Rattle.fuse_ops.proofs.Filling.{itself-first, above-first}
use Rattle.fuse_ops.proofs.served.Served.entry_from.Goals as goal

pub returns-in-Linked-eq0 : goal.returns-in-Linked-eq0
returns-in-Linked-eq0 c = record {
  next = subst (λ (n : ℕ). IsFirstEntry (IsInode c.args.self.now) c.args.self.now.tree c.args.dir.file n c.entry_of.result) (sym c.in-Linked-eq0.is-1)
      (subst (IsFirstEntry (IsInode c.args.self.now) c.args.self.now.tree c.args.dir.file 0) (sym c.entry_of.ensures.entry)
      (itself-first c.args.self.now c.args.dir.file c.inode.result (c.requires.linkage ∙ ap lacks_name c.in-Linked-eq0.is-0) c.requires.is_dir (c.inode.ensures.inode c.args.dir.file c.requires.names)));
}

pub returns-in-Linked-eq1 : goal.returns-in-Linked-eq1
returns-in-Linked-eq1 c =
    let reached : is_unlinked c.args.self.now.tree c.args.dir.file ≡ false = c.requires.linkage ∙ ap lacks_name c.in-Linked-eq1.is-0 in
    let above = c.number_above-above.ensures.above c.args.dir.file c.requires.names reached in record {
      next = subst (λ (n : ℕ). IsFirstEntry (IsInode c.args.self.now) c.args.self.now.tree c.args.dir.file n c.entry_of-in-Linked-eq1.result) (sym c.in-Linked-eq1.is-1)
          (subst (IsFirstEntry (IsInode c.args.self.now) c.args.self.now.tree c.args.dir.file 1) (sym c.entry_of-in-Linked-eq1.ensures.entry)
          (above-first c.args.self.now c.args.dir.file above.file c.inode-in-Linked-eq1.result c.number_above-above.ensures.is_tree above.above (c.inode-in-Linked-eq1.ensures.inode above.file above.names)));
    }
