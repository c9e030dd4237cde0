-- An entry that a forget would drop has no kids.
use Rattle.std.proofs.Common.{sym, ◌∙◌}
use Rattle.inode_map.proofs.Forgetting.{dropped-kids}
use Rattle.tree_rows.proofs.numbers.unlinked.Goals as goal

pub unlink-requires-clause-no_kids : goal.unlink-requires-clause-no_kids
unlink-requires-clause-no_kids c = dropped-kids c.args.map.now c.args.number.0 c.count-count.result (sym c.in-Dropped.is ∙ c.forgot.ensures.forgot)
