-- The number of the name tells the file, or none does.
use Rattle.std.proofs.Common.{sym, ap, subst, ◌∙◌}
use Rattle.std.proofs.lemmas.Bool.{not-true}
use Rattle.std.specs.Option.{option_map}
use Rattle.manifest.specs.Tree.{IsTree}
use Rattle.entry_table.specs.Entries.{entry_at, number_of_kept}
use Rattle.fuse_ops.specs.Served.{ServedState}
use Rattle.fuse_ops.specs.Soundness.{IsSound}
use Rattle.fuse_ops.proofs.Inodes.{no-kids, place-names, place-unknown}
use Rattle.fuse_ops.proofs.served.Served.inode_of_child.Goals as goal

pub returns-in-Some : goal.returns-in-Some
returns-in-Some c = record {
  inode = λ above file at child. c.inode.ensures.inode file
      (place-names c.args.self.now (subst (λ (s : ServedState). IsTree s.tree) c.self.view_is c.self.invariant.0) (subst IsSound c.self.view_is c.self.invariant.1)
      c.args.dir.number.0 c.args.name.now above file at child c.in-Some.number
      (ap (λ (s : ServedState). option_map number_of_kept (entry_at s.map.entries c.args.dir.number.0 c.args.name.now)) (sym c.self.view_is) ∙ sym c.in-Some.ensures.number));
}

pub returns-in-None : goal.returns-in-None
returns-in-None c = record {
  inode = λ above file at child.
      place-unknown c.args.self.now (subst (λ (s : ServedState). IsTree s.tree) c.self.view_is c.self.invariant.0) (subst IsSound c.self.view_is c.self.invariant.1)
      c.args.dir.number.0 c.args.name.now above file at child
      (ap (λ (s : ServedState). option_map number_of_kept (entry_at s.map.entries c.args.dir.number.0 c.args.name.now)) (sym c.self.view_is) ∙ sym c.in-None.ensures.number);
}

-- no name in the directory has a number, so this one has none
pub returns-then-not-dir : goal.returns-then-not-dir
returns-then-not-dir c = record {
  inode = λ above file at child.
      place-unknown c.args.self.now (subst (λ (s : ServedState). IsTree s.tree) c.self.view_is c.self.invariant.0) (subst IsSound c.self.view_is c.self.invariant.1)
      c.args.dir.number.0 c.args.name.now above file at child
      (no-kids c.args.self.now.map.entries c.args.dir.number.0 c.args.name.now (sym c.requires.numbers ∙ not-true c.args.dir.has_numbers c.if-not-dir.true));
}
