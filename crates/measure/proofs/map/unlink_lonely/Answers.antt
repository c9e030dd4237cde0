-- What a forget would drop has no kids.
use Rattle.std.proofs.Common.{sym, ◌∙◌}
use Rattle.inode_map.proofs.Forgetting.{dropped-kids}
use Rattle.measure.proofs.map.unlink_lonely.Goals as goal

pub unlink-requires-clause-no_kids : goal.unlink-requires-clause-no_kids
unlink-requires-clause-no_kids c = dropped-kids c.args.map.now c.args.number.0 1 (sym c.in-Dropped.is ∙ c.forgot.ensures.forgot)
