-- The number had no note, and has that of the new node.
use Rattle.std.proofs.Common.{sym, ap, subst}
use Rattle.entry_table.specs.Table.{TableState}
use Rattle.inode_map.specs.Loaded.{attrs_in, AreNamed}
use Rattle.inode_map.proofs.Loading.{attr-none, unnoted}
use Rattle.inode_map.proofs.Naming.{named-added}
use Rattle.node_arena.specs.Arena.{Arena, value_at}
use Rattle.inode_map.specs.declared.loaded.LoadedAttr.{LoadedAttr}
use Rattle.inode_map.proofs.loaded.add.Goals as goal

pub returns-clause-still_named : goal.returns-clause-still_named
returns-clause-still_named c =
    let x = c.args.loaded in
    let table = c.args.table.now in
    let nodes = c.args.nodes.now in
    let without = unnoted table.notes nodes x.number.0 c.requires.named c.slots_are_apart.ensures.sound.distinct (attr-none x.number.0 (attrs_in nodes) c.requires.unloaded) in
    subst (λ (t : TableState). AreNamed t.notes c.add.new.self) (sym c.note.ensures.noted)
    (named-added table.notes nodes c.add.new.self c.in-Ok.slot x without c.in-Ok.ensures.fresh (λ t. ap (λ (a : Arena LoadedAttr). value_at a t) c.in-Ok.ensures.first) c.requires.named)
