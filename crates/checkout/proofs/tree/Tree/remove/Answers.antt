-- A link that was added, or one of the manifest's.
use Rattle.std.proofs.Common.{arith, sym, ◌∙◌}
use Rattle.checkout.specs.UnlinkedFiles.{is_gone}
use Rattle.manifest.specs.Tally.{count_of}
use Rattle.checkout.proofs.UnlinkedLemmas.{is_gone-added}
use Rattle.checkout.proofs.OverlaySteps.{remove_added-step, is_found, found-is, remove_line-step}
use Rattle.checkout.proofs.tree.Tree.remove.Goals as goal

pub invariant_of-self : goal.invariant_of-self
invariant_of-self c =
    let i = c.self.inside in
    let done = remove_added-step i.manifest i.made i.added (is_gone i.gone) (count_of i.lost) i.next_file c.self.invariant.0 _ c.self.view_is c.args.dir c.args.name.now c.requires.not_full c.in-Some.file _ (sym c.remove.ensures.value ∙ c.in-Some.is) c.remove.ensures.links in
    (done.0, c.self.invariant.1, c.self.invariant.2)

pub returns-in-Some-clause-file : goal.returns-in-Some-clause-file
returns-in-Some-clause-file c =
    let i = c.self.inside in
    (remove_added-step i.manifest i.made i.added (is_gone i.gone) (count_of i.lost) i.next_file c.self.invariant.0 _ c.self.view_is c.args.dir c.args.name.now c.requires.not_full c.in-Some.file _ (sym c.remove.ensures.value ∙ c.in-Some.is) c.remove.ensures.links).2

pub returns-in-Some-clause-removed : goal.returns-in-Some-clause-removed
returns-in-Some-clause-removed c =
    let i = c.self.inside in
    (remove_added-step i.manifest i.made i.added (is_gone i.gone) (count_of i.lost) i.next_file c.self.invariant.0 _ c.self.view_is c.args.dir c.args.name.now c.requires.not_full c.in-Some.file _ (sym c.remove.ensures.value ∙ c.in-Some.is) c.remove.ensures.links).1

pub returns-in-Some-clause-is_tree : goal.returns-in-Some-clause-is_tree
returns-in-Some-clause-is_tree c =
    let i = c.self.inside in
    (remove_added-step i.manifest i.made i.added (is_gone i.gone) (count_of i.lost) i.next_file c.self.invariant.0 _ c.self.view_is c.args.dir c.args.name.now c.requires.not_full c.in-Some.file _ (sym c.remove.ensures.value ∙ c.in-Some.is) c.remove.ensures.links).0.is_tree

pub unwrap-file-requires : goal.unwrap-file-requires
unwrap-file-requires c =
    let i = c.self.inside in
    is_found i.manifest i.made i.added (is_gone i.gone) (count_of i.lost) i.next_file c.self.invariant.0 _ c.self.view_is c.args.dir c.args.name.now c.requires.not_full _ c.bytes.ensures.bytes (sym c.remove.ensures.value ∙ c.in_default.is) _ c.requires.there c.child.ensures.child

pub add-requires-clause-room : goal.add-requires-clause-room
add-requires-clause-room c =
    let i = c.self.inside in
    let at = found-is i.manifest i.made i.added (is_gone i.gone) (count_of i.lost) i.next_file c.self.invariant.0 _ c.self.view_is c.args.dir c.args.name.now c.requires.not_full _ c.bytes.ensures.bytes (sym c.remove.ensures.value ∙ c.in_default.is) _ c.unwrap-file.result c.requires.there c.child.ensures.child c.unwrap-file.ensures in
    omega (arith, at.file_within, c.self.invariant.1)

pub add-requires-clause-new : goal.add-requires-clause-new
add-requires-clause-new c =
    let i = c.self.inside in
    let at = found-is i.manifest i.made i.added (is_gone i.gone) (count_of i.lost) i.next_file c.self.invariant.0 _ c.self.view_is c.args.dir c.args.name.now c.requires.not_full _ c.bytes.ensures.bytes (sym c.remove.ensures.value ∙ c.in_default.is) _ c.unwrap-file.result c.requires.there c.child.ensures.child c.unwrap-file.ensures in
    at.left

pub raise-requires-clause-room : goal.raise-requires-clause-room
raise-requires-clause-room c =
    let i = c.self.inside in
    let at = found-is i.manifest i.made i.added (is_gone i.gone) (count_of i.lost) i.next_file c.self.invariant.0 _ c.self.view_is c.args.dir c.args.name.now c.requires.not_full _ c.bytes.ensures.bytes (sym c.remove.ensures.value ∙ c.in_default.is) _ c.unwrap-file.result c.requires.there c.child.ensures.child c.unwrap-file.ensures in
    omega (arith, at.dir_within, c.self.invariant.2)

pub raise-requires-clause-fits : goal.raise-requires-clause-fits
raise-requires-clause-fits c =
    let i = c.self.inside in
    let at = found-is i.manifest i.made i.added (is_gone i.gone) (count_of i.lost) i.next_file c.self.invariant.0 _ c.self.view_is c.args.dir c.args.name.now c.requires.not_full _ c.bytes.ensures.bytes (sym c.remove.ensures.value ∙ c.in_default.is) _ c.unwrap-file.result c.requires.there c.child.ensures.child c.unwrap-file.ensures in
    omega (arith, at.fits)

pub invariant_of-self-2 : goal.invariant_of-self-2
invariant_of-self-2 c =
    let i = c.self.inside in
    let at = found-is i.manifest i.made i.added (is_gone i.gone) (count_of i.lost) i.next_file c.self.invariant.0 _ c.self.view_is c.args.dir c.args.name.now c.requires.not_full _ c.bytes.ensures.bytes (sym c.remove.ensures.value ∙ c.in_default.is) _ c.unwrap-file.result c.requires.there c.child.ensures.child c.unwrap-file.ensures in
    ((remove_line-step i.manifest i.made i.added (is_gone i.gone) (count_of i.lost) i.next_file c.self.invariant.0 _ c.self.view_is c.args.dir c.args.name.now c.requires.not_full _ c.bytes.ensures.bytes (sym c.remove.ensures.value ∙ c.in_default.is) c.unwrap-file.result _ (is_gone c.add.new.self) (count_of c.raise.new.self) at c.remove.ensures.links (is_gone-added i.gone c.add.new.self c.unwrap-file.result.0 c.add.ensures.files) c.raise.ensures.counts).0, c.add.ensures.room ∙ c.self.invariant.1, c.raise.ensures.room ∙ c.self.invariant.2)

pub returns-clause-file : goal.returns-clause-file
returns-clause-file c =
    let i = c.self.inside in
    let at = found-is i.manifest i.made i.added (is_gone i.gone) (count_of i.lost) i.next_file c.self.invariant.0 _ c.self.view_is c.args.dir c.args.name.now c.requires.not_full _ c.bytes.ensures.bytes (sym c.remove.ensures.value ∙ c.in_default.is) _ c.unwrap-file.result c.requires.there c.child.ensures.child c.unwrap-file.ensures in
    at.child

pub returns-clause-removed : goal.returns-clause-removed
returns-clause-removed c =
    let i = c.self.inside in
    let at = found-is i.manifest i.made i.added (is_gone i.gone) (count_of i.lost) i.next_file c.self.invariant.0 _ c.self.view_is c.args.dir c.args.name.now c.requires.not_full _ c.bytes.ensures.bytes (sym c.remove.ensures.value ∙ c.in_default.is) _ c.unwrap-file.result c.requires.there c.child.ensures.child c.unwrap-file.ensures in
    (remove_line-step i.manifest i.made i.added (is_gone i.gone) (count_of i.lost) i.next_file c.self.invariant.0 _ c.self.view_is c.args.dir c.args.name.now c.requires.not_full _ c.bytes.ensures.bytes (sym c.remove.ensures.value ∙ c.in_default.is) c.unwrap-file.result _ (is_gone c.add.new.self) (count_of c.raise.new.self) at c.remove.ensures.links (is_gone-added i.gone c.add.new.self c.unwrap-file.result.0 c.add.ensures.files) c.raise.ensures.counts).1

pub returns-clause-is_tree : goal.returns-clause-is_tree
returns-clause-is_tree c =
    let i = c.self.inside in
    let at = found-is i.manifest i.made i.added (is_gone i.gone) (count_of i.lost) i.next_file c.self.invariant.0 _ c.self.view_is c.args.dir c.args.name.now c.requires.not_full _ c.bytes.ensures.bytes (sym c.remove.ensures.value ∙ c.in_default.is) _ c.unwrap-file.result c.requires.there c.child.ensures.child c.unwrap-file.ensures in
    (remove_line-step i.manifest i.made i.added (is_gone i.gone) (count_of i.lost) i.next_file c.self.invariant.0 _ c.self.view_is c.args.dir c.args.name.now c.requires.not_full _ c.bytes.ensures.bytes (sym c.remove.ensures.value ∙ c.in_default.is) c.unwrap-file.result _ (is_gone c.add.new.self) (count_of c.raise.new.self) at c.remove.ensures.links (is_gone-added i.gone c.add.new.self c.unwrap-file.result.0 c.add.ensures.files) c.raise.ensures.counts).0.is_tree
