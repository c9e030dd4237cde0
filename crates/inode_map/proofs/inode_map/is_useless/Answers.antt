-- A directory in which an entry stands is of use, whatever its count.
use Rattle.std.proofs.Common.{sym}
use Rattle.inode_map.proofs.Striking.{kids-useful}
use Rattle.inode_map.proofs.inode_map.is_useless.Goals as goal

pub returns-then-has_kids : goal.returns-then-has_kids
returns-then-has_kids c = record {
  useless = sym (kids-useful c.args.table.now.entries c.args.number.0 (sym c.if-has_kids.ensures.kids));
}
