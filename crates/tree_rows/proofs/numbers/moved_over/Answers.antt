-- What stands at the new name is another number, in whose directory nothing stands.
use Rattle.std.proofs.Common.{sym}
use Rattle.eden_base.proofs.NumberTests.{false-ne}
use Rattle.inode_map.proofs.Forgetting.{dropped-kids}
use Rattle.inode_map.proofs.Moving.{other-way}
use Rattle.tree_rows.proofs.numbers.moved_over.Goals as goal

pub relink-requires-2-clause-gives_way : goal.relink-requires-2-clause-gives_way
relink-requires-2-clause-gives_way c =
    other-way c.args.map.now.entries c.args.number.0 c.args.file c.in-Some.other _ c.in-Some.ensures.number (false-ne c.in-Some.other.0 c.args.number.0 (sym c.if-eq.ensures))
    (dropped-kids c.args.map.now c.in-Some.other.0 c.count-count.result c.in-Dropped.ensures.forgot)
