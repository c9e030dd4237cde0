-- A number that is of use stays, and with it all others.
use Rattle.std.proofs.Common.{sym}
use Rattle.inode_map.specs.Loaded.{attrs_in}
use Rattle.inode_map.proofs.Pruning.{pruned-init, pruned-table, pruned-loaded}
use Rattle.inode_map.proofs.Walking.{all-of_use}
use Rattle.inode_map.proofs.inode_map.prune.Goals as goal

pub returns-else-is_useless-clause-pruned : goal.returns-else-is_useless-clause-pruned
returns-else-is_useless-clause-pruned c =
    pruned-table c.args.table.now c.args.table.now (attrs_in c.args.loaded.now) (attrs_in c.args.loaded.now)
    (pruned-init c.args.table.now (attrs_in c.args.loaded.now) c.requires.numbers c.requires.loaded c.requires.remembered)
    (all-of_use c.args.table.now.entries c.args.number.0 (sym c.if-is_useless.ensures.useless) c.requires.others_of_use)

pub returns-else-is_useless-clause-unloaded : goal.returns-else-is_useless-clause-unloaded
returns-else-is_useless-clause-unloaded c =
    pruned-loaded c.args.table.now c.args.table.now (attrs_in c.args.loaded.now) (attrs_in c.args.loaded.now)
    (pruned-init c.args.table.now (attrs_in c.args.loaded.now) c.requires.numbers c.requires.loaded c.requires.remembered)
    (all-of_use c.args.table.now.entries c.args.number.0 (sym c.if-is_useless.ensures.useless) c.requires.others_of_use)
