-- An entry leaves, with its node if it notes one.
use Rattle.std.proofs.Common.{sym, ap, ◌∙◌, subst}
use Rattle.entry_table.specs.Table.{TableState}
use Rattle.inode_map.specs.Loaded.{attrs_in, slot_noted, AreNamed}
use Rattle.inode_map.proofs.Loading.{are-matched, are-others, others-stay, others-left}
use Rattle.inode_map.proofs.Naming.{named-unnoted, named-lost}
use Rattle.inode_map.proofs.loaded.strike.Goals as goal

pub returns-in_default-clause-unloaded : goal.returns-in_default-clause-unloaded
returns-in_default-clause-unloaded c =
    let n = c.args.number.0 in
    let unnoted = c.remove-entry.ensures.note ∙ c.in_default.is in
    sym (others-stay n c.args.nodes.now.entries (are-others c.args.table.now.notes c.args.nodes.now c.requires.named c.slots_are_apart.ensures.sound.distinct n unnoted))

pub returns-in_default-clause-still_named : goal.returns-in_default-clause-still_named
returns-in_default-clause-still_named c =
    let unnoted = c.remove-entry.ensures.note ∙ c.in_default.is in
    subst (λ (t : TableState). AreNamed t.notes c.args.nodes.now) (sym c.remove-entry.ensures.removed) (named-unnoted c.args.table.now.notes c.args.nodes.now c.args.number.0 unnoted c.requires.named)

pub returns-in-Some-clause-unloaded : goal.returns-in-Some-clause-unloaded
returns-in-Some-clause-unloaded c =
    let n = c.args.number.0 in
    let noted = c.remove-entry.ensures.note ∙ c.in-Some.is in
    let distinct = c.slots_are_apart.ensures.sound.distinct in
    let matched = are-matched c.args.table.now.notes c.args.nodes.now c.requires.named distinct n c.in-Some.index noted in
    ap attrs_in c.remove.ensures.rest ∙ others-left (slot_noted c.in-Some.index) n c.args.nodes.now.entries distinct matched

pub returns-in-Some-clause-still_named : goal.returns-in-Some-clause-still_named
returns-in-Some-clause-still_named c =
    let noted = c.remove-entry.ensures.note ∙ c.in-Some.is in
    subst (λ (t : TableState). AreNamed t.notes c.remove.new.self) (sym c.remove-entry.ensures.removed)
    (named-lost c.args.table.now.notes c.args.nodes.now c.remove.new.self c.args.number.0 (slot_noted c.in-Some.index) noted c.remove.ensures.gone c.remove.ensures.others c.requires.named)
