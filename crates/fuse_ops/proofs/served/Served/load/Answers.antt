-- The root's number names a file of the tree, and what is loaded is not asked for.
use Rattle.std.proofs.Common.{◌≡◌, sym, ap, ◌∙◌, subst}
use Rattle.eden_base.proofs.NumberTests.{true-eq}
use Rattle.checkout.specs.ChangedTree.{is_unlinked}
use Rattle.inode_map.specs.InodeMap.{attr_of}
use Rattle.fuse_ops.specs.Answers.{IsBacked}
use Rattle.fuse_ops.specs.Gifts.{served_over}
use Rattle.fuse_ops.specs.Served.{ServedState, IsUnloaded}
use Rattle.fuse_ops.specs.Soundness.{Names}
use Rattle.fuse_ops.specs.Work.{lacks_name}
use Rattle.fuse_ops.proofs.Asking.{on-err}
use Rattle.fuse_ops.proofs.Known.{named-file}
use Rattle.fuse_ops.proofs.Unloaded.{number-loaded, number-unloaded, root-unbacked}
use Rattle.fuse_ops.proofs.served.Served.load.Goals as goal

pub ask-requires-clause-there : goal.ask-requires-clause-there
ask-requires-clause-there g c =
    let names = subst (λ (s : ServedState). Names s c.args.number.0 c.args.located.file) (sym c.self.view_is) c.requires.names in
    named-file (served_over c.self.inside.tree c.self.inside.map) c.self.invariant.0 c.self.invariant.1 c.args.number.0 c.args.located.file names

pub returns-then-eq-clause-not_loaded : goal.returns-then-eq-clause-not_loaded
returns-then-eq-clause-not_loaded g c =
    let old = served_over c.self.inside.tree c.self.inside.map in
    let names = subst (λ (s : ServedState). Names s c.args.number.0 c.args.located.file) (sym c.self.view_is) c.requires.names in
    on-err c.ask.result _ _ (λ backed. absurd (root-unbacked old c.self.invariant.0 c.args.number.0 c.args.located.file (true-eq c.args.number.0 1 (sym c.if-eq.ensures)) names backed)) c.ask.ensures.backed

pub returns-in-Some-clause-failing : goal.returns-in-Some-clause-failing
returns-in-Some-clause-failing g c = λ k unloaded.
    absurd (number-loaded c.args.self.now c.args.number.0 c.args.located.file c.requires.names c.in-Some.ensures.was_loaded unloaded)

pub returns-clause-not_loaded : goal.returns-clause-not_loaded
returns-clause-not_loaded g c =
    let old = served_over c.self.inside.tree c.self.inside.map in
    let file = c.args.located.file in
    let before = c.in_default.ensures.unchanged ∙ sym c.self.view_is in
    let names = subst (λ (s : ServedState). Names s c.args.number.0 file) (sym c.self.view_is) c.requires.names in
    let none = ap (λ (s : ServedState). attr_of s.map.loaded c.args.number.0) c.self.view_is ∙ c.in_default.ensures.unloaded in
    on-err c.load_asked.result _ _ (λ backed. subst (λ (s : ServedState). IsUnloaded s file) c.self.view_is
    (number-unloaded old c.self.invariant.0 c.self.invariant.1 c.args.number.0 file names none (subst (λ (s : ServedState). IsBacked s.tree file) before backed))) c.load_asked.ensures.backed

pub ask-requires-clause-linkage : goal.ask-requires-clause-linkage
ask-requires-clause-linkage g c = subst (λ (s : ServedState). is_unlinked s.tree c.args.located.file ≡ lacks_name c.args.located.linkage) (sym c.self.view_is) c.requires.linkage
