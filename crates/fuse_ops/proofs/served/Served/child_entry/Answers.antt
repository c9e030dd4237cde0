-- The first child that is left has the first entry.
use Rattle.std.proofs.Common.{◌≡◌, ℕ, ◌+◌, List, None, Some, sym, ap, subst, ◌∙◌}
use Rattle.fuse_wire.specs.DirectoryEntries.{Dirent}
use Rattle.manifest.specs.Tree.{IsTree, IsFirstFrom, child_of, kind_of}
use Rattle.fuse_ops.specs.Listing.{IsFirstEntry}
use Rattle.fuse_ops.specs.Served.{ServedState, IsInode}
use Rattle.fuse_ops.specs.Work.{IsNextEntry}
use Rattle.fuse_ops.proofs.Filling.{none-left, child-first}
use Rattle.fuse_ops.proofs.served.Served.child_entry.Goals as goal

pub returns-in_err-child : goal.returns-in_err-child
returns-in_err-child c = record {
  next = subst (IsNextEntry c.args.self.now c.args.dir.file c.args.from) (sym c.from_residual.ensures)
      (none-left c.args.self.now c.args.dir.file c.args.from (subst (λ (s : ServedState). IsTree s.tree) c.self.view_is c.self.invariant.0) c.requires.behind
      (subst (λ (s : ServedState). IsFirstFrom s.tree.links c.args.dir.file c.args.from None) c.self.view_is c.in_err-child.ensures.first));
}

pub returns : goal.returns
returns c = record {
  next = subst (IsFirstEntry (IsInode c.args.self.now) c.args.self.now.tree c.args.dir.file c.args.from) (ap entry (sym c.bytes.ensures.bytes) ∙ sym c.entry_of.ensures.entry)
      (child-first c.args.self.now c.args.dir.file c.args.from (subst (λ (s : ServedState). IsTree s.tree) c.self.view_is c.self.invariant.0) c.requires.behind
      c.in_ok-child.child.file c.in_ok-child.child.name.now c.in-Some.kind c.inode_of_child-number.result
      (subst (λ (s : ServedState). IsFirstFrom s.tree.links c.args.dir.file c.args.from (Some c.in_ok-child.child.file)) c.self.view_is c.in_ok-child.ensures.first)
      (subst (λ (s : ServedState). child_of s.tree c.args.dir.file c.in_ok-child.child.name.now ≡ Some c.in_ok-child.child.file) c.self.view_is c.in_ok-child.ensures.name)
      (subst (λ (s : ServedState). kind_of s.tree c.in_ok-child.child.file ≡ Some c.in-Some.kind) c.self.view_is (sym c.in-Some.ensures.kind))
      (c.inode_of_child-number.ensures.inode c.args.dir.file c.in_ok-child.child.file c.requires.names
      (subst (λ (s : ServedState). child_of s.tree c.args.dir.file c.in_ok-child.child.name.now ≡ Some c.in_ok-child.child.file) c.self.view_is c.in_ok-child.ensures.name)));
} where
  entry : List ℕ → Dirent
  entry name = record { number = c.inode_of_child-number.result; next = c.in_ok-child.child.file.0 + 1; kind = c.in-Some.kind; name = name }
