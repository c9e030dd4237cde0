-- The file is moved, or nothing is changed.
use Rattle.checkout.specs.UnlinkedFiles.{is_gone}
use Rattle.manifest.specs.Tally.{count_of}
use Rattle.checkout.proofs.RenameSteps.{added_is, added_not, added_once, added_stood, rename-step}
use Rattle.checkout.proofs.tree.Tree.rename.Goals as goal

pub rename-requires-clause-there : goal.rename-requires-clause-there
rename-requires-clause-there c =
    let i = c.self.inside in
    added_is i.manifest i.made i.added (is_gone i.gone) (count_of i.lost) i.next_file c.self.invariant.0 _ c.self.view_is c.args.dir c.args.name.now c.args.to_dir c.args.to_name.now c.args.file c.requires.there

pub rename-requires-clause-once : goal.rename-requires-clause-once
rename-requires-clause-once c =
    let i = c.self.inside in
    added_once i.manifest i.made i.added (is_gone i.gone) (count_of i.lost) i.next_file c.self.invariant.0 _ c.self.view_is c.args.dir c.args.name.now c.args.to_dir c.args.to_name.now c.args.file c.requires.there

pub rename-requires-clause-other : goal.rename-requires-clause-other
rename-requires-clause-other c =
    let i = c.self.inside in
    added_not i.manifest i.made i.added (is_gone i.gone) (count_of i.lost) i.next_file c.self.invariant.0 _ c.self.view_is c.args.dir c.args.name.now c.args.to_dir c.args.to_name.now c.args.file c.requires.there c.args.replaced c.requires.replaced c.requires.other

pub rename-requires-clause-replaced : goal.rename-requires-clause-replaced
rename-requires-clause-replaced c =
    let i = c.self.inside in
    added_stood i.manifest i.made i.added (is_gone i.gone) (count_of i.lost) i.next_file c.self.invariant.0 _ c.self.view_is c.args.dir c.args.name.now c.args.to_dir c.args.to_name.now c.args.file c.requires.there c.args.replaced c.requires.replaced c.requires.other

pub invariant_of-self-2 : goal.invariant_of-self-2
invariant_of-self-2 c =
    let i = c.self.inside in (
      (rename-step i.manifest i.made i.added (is_gone i.gone) (count_of i.lost) i.next_file c.self.invariant.0 _ c.self.view_is c.args.dir c.args.name.now c.args.to_dir c.args.to_name.now c.args.file c.requires.there c.args.replaced c.requires.replaced c.requires.other c.requires.fits c.requires.not_above c.requires.to_dir c.requires.reached c.rename.new.self c.lose.new.gone c.lose-2.new.gone c.lose-2.new.lost c.in_ok-rename.ensures.name c.in_ok-rename.ensures.ok c.lose.ensures.gone c.lose-2.ensures.gone c.lose-2.ensures.now).0,
      c.lose-2.ensures.now.gone_room,
      c.lose-2.ensures.now.lost_room,
    )

pub returns-clause-renamed : goal.returns-clause-renamed
returns-clause-renamed c =
    let i = c.self.inside in
    (rename-step i.manifest i.made i.added (is_gone i.gone) (count_of i.lost) i.next_file c.self.invariant.0 _ c.self.view_is c.args.dir c.args.name.now c.args.to_dir c.args.to_name.now c.args.file c.requires.there c.args.replaced c.requires.replaced c.requires.other c.requires.fits c.requires.not_above c.requires.to_dir c.requires.reached c.rename.new.self c.lose.new.gone c.lose-2.new.gone c.lose-2.new.lost c.in_ok-rename.ensures.name c.in_ok-rename.ensures.ok c.lose.ensures.gone c.lose-2.ensures.gone c.lose-2.ensures.now).1

pub returns-clause-is_tree : goal.returns-clause-is_tree
returns-clause-is_tree c =
    let i = c.self.inside in
    (rename-step i.manifest i.made i.added (is_gone i.gone) (count_of i.lost) i.next_file c.self.invariant.0 _ c.self.view_is c.args.dir c.args.name.now c.args.to_dir c.args.to_name.now c.args.file c.requires.there c.args.replaced c.requires.replaced c.requires.other c.requires.fits c.requires.not_above c.requires.to_dir c.requires.reached c.rename.new.self c.lose.new.gone c.lose-2.new.gone c.lose-2.new.lost c.in_ok-rename.ensures.name c.in_ok-rename.ensures.ok c.lose.ensures.gone c.lose-2.ensures.gone c.lose-2.ensures.now).0.is_tree
