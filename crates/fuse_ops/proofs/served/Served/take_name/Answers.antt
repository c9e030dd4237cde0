-- The number of the name is linked and has no kids, and what is known after it fits together.
use Rattle.std.proofs.Common.{sym, ◌∙◌}
use Rattle.fuse_ops.specs.Gifts.{served_over}
use Rattle.fuse_ops.proofs.Loaded.{taken-loaded}
use Rattle.fuse_ops.proofs.Remembering.{taken-remembers}
use Rattle.fuse_ops.proofs.Taking.{may-lose, taken-number, taken-none, taken-sound}
use Rattle.fuse_ops.proofs.served.Served.take_name.Goals as goal

pub unlink-requires-clause-linked : goal.unlink-requires-clause-linked
unlink-requires-clause-linked c =
    let may = may-lose (served_over c.self.inside.tree c.self.inside.map) c.args.self.now c.args.number c.args.dir c.args.name.now c.remove-file.result c.self.view_is c.self.invariant.0 c.self.invariant.1 c.requires.dir c.remove-file.ensures.file c.requires.not_full in
    (taken-number _ _ _ _ _ may c.in-Some.kept (sym c.in-Some.is ∙ c.number_for-kept.ensures.number)).linked

pub unlink-requires-clause-no_kids : goal.unlink-requires-clause-no_kids
unlink-requires-clause-no_kids c =
    let may = may-lose (served_over c.self.inside.tree c.self.inside.map) c.args.self.now c.args.number c.args.dir c.args.name.now c.remove-file.result c.self.view_is c.self.invariant.0 c.self.invariant.1 c.requires.dir c.remove-file.ensures.file c.requires.not_full in
    (taken-number _ _ _ _ _ may c.in-Some.kept (sym c.in-Some.is ∙ c.number_for-kept.ensures.number)).no_kids

pub invariant_of-self : goal.invariant_of-self
invariant_of-self c =
    let may = may-lose (served_over c.self.inside.tree c.self.inside.map) c.args.self.now c.args.number c.args.dir c.args.name.now c.remove-file.result c.self.view_is c.self.invariant.0 c.self.invariant.1 c.requires.dir c.remove-file.ensures.file c.requires.not_full in
    let number = taken-number _ _ _ _ _ may c.in-Some.kept (sym c.in-Some.is ∙ c.number_for-kept.ensures.number) in
    let taken = c.unlink.ensures.unlinked ∙ number.makes in (
      c.remove-file.ensures.is_tree,
      taken-sound _ _ _ _ _ c.unlink.new.self c.remove-file.new.self may taken c.remove-file.ensures.removed,
      taken-remembers _ _ _ _ _ c.unlink.new.self c.remove-file.new.self may taken c.remove-file.ensures.removed c.self.invariant.2,
      taken-loaded _ _ _ _ _ c.unlink.new.self c.remove-file.new.self may taken c.remove-file.ensures.removed c.self.invariant.3,
    )

pub invariant_of-self-in_default : goal.invariant_of-self-in_default
invariant_of-self-in_default c =
    let may = may-lose (served_over c.self.inside.tree c.self.inside.map) c.args.self.now c.args.number c.args.dir c.args.name.now c.remove-file.result c.self.view_is c.self.invariant.0 c.self.invariant.1 c.requires.dir c.remove-file.ensures.file c.requires.not_full in
    let none = sym (taken-none c.self.inside.map c.args.number c.args.name.now c.remove-file.result (sym c.in_default.is ∙ c.number_for-kept.ensures.number)) in (
      c.remove-file.ensures.is_tree,
      taken-sound _ _ _ _ _ c.self.inside.map c.remove-file.new.self may none c.remove-file.ensures.removed,
      taken-remembers _ _ _ _ _ c.self.inside.map c.remove-file.new.self may none c.remove-file.ensures.removed c.self.invariant.2,
      taken-loaded _ _ _ _ _ c.self.inside.map c.remove-file.new.self may none c.remove-file.ensures.removed c.self.invariant.3,
    )
