-- What is noted of a number is reached and becomes the first, and where nothing is, nothing is loaded.
use Rattle.std.proofs.Common.{sym, ap, ◌∙◌}
use Rattle.std.specs.Option.{option_map}
use Rattle.inode_map.specs.InodeMap.{attr_in}
use Rattle.inode_map.specs.Loaded.{attrs_in}
use Rattle.inode_map.proofs.Loading.{are-matched, are-others, looked, looked-none, touched-attrs, used-none}
use Rattle.inode_map.proofs.Naming.{named-touched}
use Rattle.inode_map.proofs.loaded.attr_at.Goals as goal

pub returns-in_err-slot-clause-attr : goal.returns-in_err-slot-clause-attr
returns-in_err-slot-clause-attr c =
    let n = c.args.number.0 in
    let others = are-others c.args.table.now.notes c.args.nodes.now c.requires.named c.slots_are_apart.ensures.sound.distinct n c.in_err-slot.ensures in
    rw c.from_residual.ensures (sym (ap (option_map attr_in) (looked-none n c.args.nodes.now.entries others)))

pub returns-in_err-slot-clause-used : goal.returns-in_err-slot-clause-used
returns-in_err-slot-clause-used c =
    let n = c.args.number.0 in
    used-none n c.args.nodes.now (are-others c.args.table.now.notes c.args.nodes.now c.requires.named c.slots_are_apart.ensures.sound.distinct n c.in_err-slot.ensures)

pub returns-clause-attr : goal.returns-clause-attr
returns-clause-attr c =
    let n = c.args.number.0 in
    let matched = are-matched c.args.table.now.notes c.args.nodes.now c.requires.named c.slots_are_apart.ensures.sound.distinct n c.in_ok-slot.slot.index c.in_ok-slot.ensures in
    ap (option_map attr_in) (sym c.get.ensures.value ∙ looked c.in_ok-slot.slot n c.args.nodes.now.entries matched)

pub returns-clause-used : goal.returns-clause-used
returns-clause-used c =
    let n = c.args.number.0 in
    let matched = are-matched c.args.table.now.notes c.args.nodes.now c.requires.named c.slots_are_apart.ensures.sound.distinct n c.in_ok-slot.slot.index c.in_ok-slot.ensures in
    ap attrs_in c.touch.ensures.first ∙ touched-attrs c.args.nodes.now c.in_ok-slot.slot n matched

pub returns-clause-still_named : goal.returns-clause-still_named
returns-clause-still_named c = named-touched c.args.table.now.notes c.args.nodes.now c.touch.new.self c.touch.ensures.values c.requires.named
