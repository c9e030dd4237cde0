-- Entries of no use leave one after another.
use Rattle.std.proofs.Common.{refl, sym, ◌∙◌}
use Rattle.eden_base.specs.declared.place.Place.TheVariants.{Linked, Unlinked}
use Rattle.inode_map.specs.Loaded.{attrs_in}
use Rattle.inode_map.proofs.Pruning.{Leaves, pruned-init, pruned-shorter, pruned-table, pruned-loaded, going-step, going-others, going-on}
use Rattle.inode_map.proofs.Walking.{all-of_use}
use Rattle.inode_map.proofs.inode_map.drop_upwards.Goals as goal

pub loop-parent-init : goal.loop-parent-init
loop-parent-init c = record {
  pruned = pruned-init c.args.table.now (attrs_in c.args.loaded.now) c.requires.numbers c.requires.loaded c.requires.remembered;
  useless = c.requires.useless;
  others_of_use = c.requires.others_of_use;
  named = c.requires.named;
  capacity = refl;
}

pub returns-in-Unlinked-clause-pruned : goal.returns-in-Unlinked-clause-pruned
returns-in-Unlinked-clause-pruned c =
    let left : Leaves c.loop-parent.table c.strike.new.table c.loop-parent.loaded c.strike.new.nodes c.loop-parent.number.0 c.strike.result = record { stood = c.strike.ensures.place; table = c.strike.ensures.removed; loaded = c.strike.ensures.unloaded; named = c.strike.ensures.still_named; capacity = c.strike.ensures.capacity } in
    let others = going-others c.args.table.now c.loop-parent.table c.strike.new.table c.args.loaded.now c.loop-parent.loaded c.strike.new.nodes c.loop-parent.number.0 c.strike.result c.loop-parent.invariant left (Unlinked c.in-Unlinked.file) c.in-Unlinked.is in
    pruned-table c.args.table.now c.strike.new.table (attrs_in c.args.loaded.now) (attrs_in c.strike.new.nodes) (going-step c.args.table.now c.loop-parent.table c.strike.new.table c.args.loaded.now c.loop-parent.loaded c.strike.new.nodes c.loop-parent.number.0 c.strike.result c.loop-parent.invariant left) others

pub returns-in-Unlinked-clause-unloaded : goal.returns-in-Unlinked-clause-unloaded
returns-in-Unlinked-clause-unloaded c =
    let left : Leaves c.loop-parent.table c.strike.new.table c.loop-parent.loaded c.strike.new.nodes c.loop-parent.number.0 c.strike.result = record { stood = c.strike.ensures.place; table = c.strike.ensures.removed; loaded = c.strike.ensures.unloaded; named = c.strike.ensures.still_named; capacity = c.strike.ensures.capacity } in
    let others = going-others c.args.table.now c.loop-parent.table c.strike.new.table c.args.loaded.now c.loop-parent.loaded c.strike.new.nodes c.loop-parent.number.0 c.strike.result c.loop-parent.invariant left (Unlinked c.in-Unlinked.file) c.in-Unlinked.is in
    pruned-loaded c.args.table.now c.strike.new.table (attrs_in c.args.loaded.now) (attrs_in c.strike.new.nodes) (going-step c.args.table.now c.loop-parent.table c.strike.new.table c.args.loaded.now c.loop-parent.loaded c.strike.new.nodes c.loop-parent.number.0 c.strike.result c.loop-parent.invariant left) others

pub returns-in-Unlinked-clause-capacity : goal.returns-in-Unlinked-clause-capacity
returns-in-Unlinked-clause-capacity c = c.strike.ensures.capacity ∙ c.loop-parent.invariant.capacity

pub returns-then-not-is_useless-clause-pruned : goal.returns-then-not-is_useless-clause-pruned
returns-then-not-is_useless-clause-pruned c =
    let left : Leaves c.loop-parent.table c.strike.new.table c.loop-parent.loaded c.strike.new.nodes c.loop-parent.number.0 c.strike.result = record { stood = c.strike.ensures.place; table = c.strike.ensures.removed; loaded = c.strike.ensures.unloaded; named = c.strike.ensures.still_named; capacity = c.strike.ensures.capacity } in
    let others = going-others c.args.table.now c.loop-parent.table c.strike.new.table c.args.loaded.now c.loop-parent.loaded c.strike.new.nodes c.loop-parent.number.0 c.strike.result c.loop-parent.invariant left (Linked c.in-Linked.parent c.in-Linked.name) c.in-Linked.is in
    pruned-table c.args.table.now c.strike.new.table (attrs_in c.args.loaded.now) (attrs_in c.strike.new.nodes) (going-step c.args.table.now c.loop-parent.table c.strike.new.table c.args.loaded.now c.loop-parent.loaded c.strike.new.nodes c.loop-parent.number.0 c.strike.result c.loop-parent.invariant left) (all-of_use c.strike.new.table.entries c.in-Linked.parent.0 (sym c.if-not-is_useless.ensures.useless) others)

pub returns-then-not-is_useless-clause-unloaded : goal.returns-then-not-is_useless-clause-unloaded
returns-then-not-is_useless-clause-unloaded c =
    let left : Leaves c.loop-parent.table c.strike.new.table c.loop-parent.loaded c.strike.new.nodes c.loop-parent.number.0 c.strike.result = record { stood = c.strike.ensures.place; table = c.strike.ensures.removed; loaded = c.strike.ensures.unloaded; named = c.strike.ensures.still_named; capacity = c.strike.ensures.capacity } in
    let others = going-others c.args.table.now c.loop-parent.table c.strike.new.table c.args.loaded.now c.loop-parent.loaded c.strike.new.nodes c.loop-parent.number.0 c.strike.result c.loop-parent.invariant left (Linked c.in-Linked.parent c.in-Linked.name) c.in-Linked.is in
    pruned-loaded c.args.table.now c.strike.new.table (attrs_in c.args.loaded.now) (attrs_in c.strike.new.nodes) (going-step c.args.table.now c.loop-parent.table c.strike.new.table c.args.loaded.now c.loop-parent.loaded c.strike.new.nodes c.loop-parent.number.0 c.strike.result c.loop-parent.invariant left) (all-of_use c.strike.new.table.entries c.in-Linked.parent.0 (sym c.if-not-is_useless.ensures.useless) others)

pub returns-then-not-is_useless-clause-capacity : goal.returns-then-not-is_useless-clause-capacity
returns-then-not-is_useless-clause-capacity c = c.strike.ensures.capacity ∙ c.loop-parent.invariant.capacity

pub loop-parent-smaller : goal.loop-parent-smaller
loop-parent-smaller c = pruned-shorter c.loop-parent.table c.strike.new.table c.loop-parent.number.0 c.loop-parent.invariant.useless c.strike.ensures.removed

pub loop-parent-preserved : goal.loop-parent-preserved
loop-parent-preserved c =
    let left : Leaves c.loop-parent.table c.strike.new.table c.loop-parent.loaded c.strike.new.nodes c.loop-parent.number.0 c.strike.result = record { stood = c.strike.ensures.place; table = c.strike.ensures.removed; loaded = c.strike.ensures.unloaded; named = c.strike.ensures.still_named; capacity = c.strike.ensures.capacity } in
    going-on c.args.table.now c.loop-parent.table c.strike.new.table c.args.loaded.now c.loop-parent.loaded c.strike.new.nodes c.loop-parent.number.0 c.strike.result c.loop-parent.invariant left c.in-Linked.parent c.in-Linked.name c.in-Linked.is (sym c.if-not-is_useless.ensures.useless)
