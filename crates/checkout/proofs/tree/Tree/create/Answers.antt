-- The file is made, or nothing is changed.
use Rattle.std.proofs.Common.{refl, ap, ◌∙◌}
use Rattle.eden_base.specs.declared.number.FileId.{FileId}
use Rattle.checkout.specs.ChangedTree.{attr_of, created, next_file}
use Rattle.checkout.specs.UnlinkedFiles.{is_gone}
use Rattle.manifest.specs.Tally.{count_of}
use Rattle.checkout.proofs.AttrLaws.{attr_of-created}
use Rattle.checkout.proofs.OverlaySteps.{create-step, made_is_below, next_is_new, none_there, undone}
use Rattle.checkout.proofs.tree.Tree.create.Goals as goal

pub insert-requires-clause-free : goal.insert-requires-clause-free
insert-requires-clause-free c =
    let i = c.self.inside in
    none_there i.manifest i.made i.added (is_gone i.gone) (count_of i.lost) i.next_file c.self.invariant.0 _ c.self.view_is c.args.dir c.args.name.now c.requires.free

pub insert-requires-clause-new : goal.insert-requires-clause-new
insert-requires-clause-new c =
    let i = c.self.inside in
    next_is_new i.manifest i.made i.added (is_gone i.gone) (count_of i.lost) i.next_file c.self.invariant.0 _ c.self.view_is c.args.dir c.args.name.now (record { 0 = i.next_file }) refl

pub add-requires : goal.add-requires
add-requires c =
    let i = c.self.inside in
    record { later = made_is_below i.manifest i.made i.added (is_gone i.gone) (count_of i.lost) i.next_file c.self.invariant.0 _ c.self.view_is c.args.dir c.args.name.now }

pub invariant_of-self-in_default-add : goal.invariant_of-self-in_default-add
invariant_of-self-in_default-add c =
    let i = c.self.inside in
    let same = undone i.manifest i.made i.added (is_gone i.gone) (count_of i.lost) i.next_file c.self.invariant.0 _ c.self.view_is c.args.dir c.args.name.now c.requires.free _ _ _ c.in-Ok.ensures.ok c.remove.ensures.links in
    rw (same, c.in_default-add.ensures.err) c.self.invariant

pub returns-in_default-add-clause-unchanged : goal.returns-in_default-add-clause-unchanged
returns-in_default-add-clause-unchanged c =
    let i = c.self.inside in
    let same = undone i.manifest i.made i.added (is_gone i.gone) (count_of i.lost) i.next_file c.self.invariant.0 _ c.self.view_is c.args.dir c.args.name.now c.requires.free _ _ _ c.in-Ok.ensures.ok c.remove.ensures.links in
    rw (same, c.in_default-add.ensures.err) c.self.view_is

pub returns-in_default-add-clause-is_tree : goal.returns-in_default-add-clause-is_tree
returns-in_default-add-clause-is_tree c =
    let i = c.self.inside in
    let same = undone i.manifest i.made i.added (is_gone i.gone) (count_of i.lost) i.next_file c.self.invariant.0 _ c.self.view_is c.args.dir c.args.name.now c.requires.free _ _ _ c.in-Ok.ensures.ok c.remove.ensures.links in
    rw (same, c.in_default-add.ensures.err) c.self.invariant.0.is_tree

pub invariant_of-self-2 : goal.invariant_of-self-2
invariant_of-self-2 c =
    let i = c.self.inside in
    let made = create-step i.manifest i.made i.added (is_gone i.gone) (count_of i.lost) i.next_file c.self.invariant.0 _ c.self.view_is c.args.dir c.args.name.now c.requires.free c.args.kind c.args.perm _ _ c.requires.dir c.requires.reached c.in-Ok.ensures.name c.if-self-ge-END_OF_FILES.false c.in-Ok-add.ensures.ok c.in-Ok.ensures.ok in
    (made.0, c.self.invariant.1, c.self.invariant.2)

pub returns-clause-created : goal.returns-clause-created
returns-clause-created c =
    let i = c.self.inside in
    (create-step i.manifest i.made i.added (is_gone i.gone) (count_of i.lost) i.next_file c.self.invariant.0 _ c.self.view_is c.args.dir c.args.name.now c.requires.free c.args.kind c.args.perm _ _ c.requires.dir c.requires.reached c.in-Ok.ensures.name c.if-self-ge-END_OF_FILES.false c.in-Ok-add.ensures.ok c.in-Ok.ensures.ok).1

pub returns-clause-is_tree : goal.returns-clause-is_tree
returns-clause-is_tree c =
    let i = c.self.inside in
    (create-step i.manifest i.made i.added (is_gone i.gone) (count_of i.lost) i.next_file c.self.invariant.0 _ c.self.view_is c.args.dir c.args.name.now c.requires.free c.args.kind c.args.perm _ _ c.requires.dir c.requires.reached c.in-Ok.ensures.name c.if-self-ge-END_OF_FILES.false c.in-Ok-add.ensures.ok c.in-Ok.ensures.ok).0.is_tree

pub returns-clause-attr : goal.returns-clause-attr
returns-clause-attr c =
    let file : FileId = record { 0 = c.self.inside.next_file } in
    let old = c.args.self.now in
    ap (λ tree. attr_of tree file) (returns-clause-created c)
    ∙ ap (attr_of (created old c.args.dir c.args.name.now c.args.kind c.args.perm)) (ap next_file c.self.view_is)
    ∙ attr_of-created old c.args.dir c.args.name.now c.args.kind c.args.perm
