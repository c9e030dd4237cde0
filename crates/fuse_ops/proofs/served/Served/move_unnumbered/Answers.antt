-- What the tree and the numbers are asked may be, and what is known after the move fits together.
use Rattle.std.proofs.Common.{◌≡◌, true, IfSome, Some, None, sym, ap, ◌∙◌, subst}
use Rattle.checkout.specs.RenamedTree.{can_replace}
use Rattle.manifest.specs.Tree.{child_of}
use Rattle.entry_table.specs.Entries.{entry_at}
use Rattle.fuse_ops.specs.Gifts.{served_over}
use Rattle.fuse_ops.specs.Served.{ServedState}
use Rattle.fuse_ops.proofs.MovedKeeps.{fits-take, may-take, may_replace_any, loses, moved-knows, moved-none}
use Rattle.fuse_ops.proofs.Taking.{taken-none, taken-number}
use Rattle.fuse_ops.proofs.served.Served.move_unnumbered.Goals as goal

pub rename-requires-clause-there : goal.rename-requires-clause-there
rename-requires-clause-there c =
    let may = may-take (served_over c.self.inside.tree c.self.inside.map) c.args.self.now c.args.dir c.args.found c.args.name.now c.args.to_dir c.args.to_name.now c.self.view_is c.self.invariant.0 c.self.invariant.1 c.requires.may in
    may.child

pub rename-requires-clause-replaced : goal.rename-requires-clause-replaced
rename-requires-clause-replaced c = ap (λ (s : ServedState). child_of s.tree c.args.found.to_dir c.args.to_name.now) c.self.view_is ∙ c.requires.stood

pub rename-requires-clause-other : goal.rename-requires-clause-other
rename-requires-clause-other c =
    let may = may-take (served_over c.self.inside.tree c.self.inside.map) c.args.self.now c.args.dir c.args.found c.args.name.now c.args.to_dir c.args.to_name.now c.self.view_is c.self.invariant.0 c.self.invariant.1 c.requires.may in
    λ same. may.other (rename-requires-clause-replaced c ∙ same)

pub rename-requires-clause-fits : goal.rename-requires-clause-fits
rename-requires-clause-fits c =
    let fits = fits-take (served_over c.self.inside.tree c.self.inside.map) c.args.self.now c.args.dir c.args.found c.args.name.now c.args.to_dir c.args.to_name.now c.self.view_is c.requires.may in
    subst (λ o. IfSome o (λ other. can_replace c.self.inside.tree c.args.found.file other ≡ true)) (rename-requires-clause-replaced c) (may_replace_any c.self.inside.tree c.args.found.file _ fits)

pub rename-requires-clause-not_above : goal.rename-requires-clause-not_above
rename-requires-clause-not_above c =
    let may = may-take (served_over c.self.inside.tree c.self.inside.map) c.args.self.now c.args.dir c.args.found c.args.name.now c.args.to_dir c.args.to_name.now c.self.view_is c.self.invariant.0 c.self.invariant.1 c.requires.may in
    may.not_above

pub invariant_of-self-in_default : goal.invariant_of-self-in_default
invariant_of-self-in_default c =
    let may = may-take (served_over c.self.inside.tree c.self.inside.map) c.args.self.now c.args.dir c.args.found c.args.name.now c.args.to_dir c.args.to_name.now c.self.view_is c.self.invariant.0 c.self.invariant.1 c.requires.may in
    let absent : entry_at c.self.inside.map.entries c.args.dir.0 c.args.name.now ≡ None = subst (λ (s : ServedState). entry_at s.map.entries c.args.dir.0 c.args.name.now ≡ None) (sym c.self.view_is) c.requires.unnumbered in
    let r = ap (λ (s : ServedState). child_of s.tree c.args.found.to_dir c.args.to_name.now) c.self.view_is ∙ c.requires.stood in
    let is = c.in_default.is in
    let free : child_of c.self.inside.tree c.args.found.to_dir c.args.to_name.now ≡ None = cc (r, is) in
    let same = moved-none c.self.inside.map c.args.dir c.args.name.now c.args.to_dir c.args.to_name.now _ None absent free in
    let k = moved-knows _ _ _ _ _ _ _ _ c.self.inside.map c.rename.new.self may same c.in_ok-rename.ensures.renamed c.self.invariant.2 c.self.invariant.3 in
    (c.rename.ensures.is_tree, k.sound, k.remembered, k.loaded)

pub unlink-requires-clause-linked : goal.unlink-requires-clause-linked
unlink-requires-clause-linked c =
    let may = may-take (served_over c.self.inside.tree c.self.inside.map) c.args.self.now c.args.dir c.args.found c.args.name.now c.args.to_dir c.args.to_name.now c.self.view_is c.self.invariant.0 c.self.invariant.1 c.requires.may in
    let r = ap (λ (s : ServedState). child_of s.tree c.args.found.to_dir c.args.to_name.now) c.self.view_is ∙ c.requires.stood in
    let is = c.in-Some.is in
    let stood : child_of c.self.inside.tree c.args.found.to_dir c.args.to_name.now ≡ Some c.in-Some.file = cc (r, is) in
    (taken-number _ _ _ _ _ (loses _ _ _ _ _ _ _ _ may c.in-Some.file stood) c.in-Some-taken.number (sym c.in-Some-taken.is ∙ c.number_for-taken.ensures.number)).linked

pub unlink-requires-clause-no_kids : goal.unlink-requires-clause-no_kids
unlink-requires-clause-no_kids c =
    let may = may-take (served_over c.self.inside.tree c.self.inside.map) c.args.self.now c.args.dir c.args.found c.args.name.now c.args.to_dir c.args.to_name.now c.self.view_is c.self.invariant.0 c.self.invariant.1 c.requires.may in
    let r = ap (λ (s : ServedState). child_of s.tree c.args.found.to_dir c.args.to_name.now) c.self.view_is ∙ c.requires.stood in
    let is = c.in-Some.is in
    let stood : child_of c.self.inside.tree c.args.found.to_dir c.args.to_name.now ≡ Some c.in-Some.file = cc (r, is) in
    (taken-number _ _ _ _ _ (loses _ _ _ _ _ _ _ _ may c.in-Some.file stood) c.in-Some-taken.number (sym c.in-Some-taken.is ∙ c.number_for-taken.ensures.number)).no_kids

pub invariant_of-self-in-Some-taken : goal.invariant_of-self-in-Some-taken
invariant_of-self-in-Some-taken c =
    let may = may-take (served_over c.self.inside.tree c.self.inside.map) c.args.self.now c.args.dir c.args.found c.args.name.now c.args.to_dir c.args.to_name.now c.self.view_is c.self.invariant.0 c.self.invariant.1 c.requires.may in
    let absent : entry_at c.self.inside.map.entries c.args.dir.0 c.args.name.now ≡ None = subst (λ (s : ServedState). entry_at s.map.entries c.args.dir.0 c.args.name.now ≡ None) (sym c.self.view_is) c.requires.unnumbered in
    let r = ap (λ (s : ServedState). child_of s.tree c.args.found.to_dir c.args.to_name.now) c.self.view_is ∙ c.requires.stood in
    let is = c.in-Some.is in
    let stood : child_of c.self.inside.tree c.args.found.to_dir c.args.to_name.now ≡ Some c.in-Some.file = cc (r, is) in
    let number = taken-number _ _ _ _ _ (loses _ _ _ _ _ _ _ _ may c.in-Some.file stood) c.in-Some-taken.number (sym c.in-Some-taken.is ∙ c.number_for-taken.ensures.number) in
    let same = moved-none c.self.inside.map c.args.dir c.args.name.now c.args.to_dir c.args.to_name.now _ (Some c.in-Some.file) absent stood in
    let k = moved-knows _ _ _ _ _ _ _ _ c.unlink.new.self c.rename.new.self may (c.unlink.ensures.unlinked ∙ number.makes ∙ same) c.in_ok-rename.ensures.renamed c.self.invariant.2 c.self.invariant.3 in
    (c.rename.ensures.is_tree, k.sound, k.remembered, k.loaded)

pub invariant_of-self-in_default-taken : goal.invariant_of-self-in_default-taken
invariant_of-self-in_default-taken c =
    let may = may-take (served_over c.self.inside.tree c.self.inside.map) c.args.self.now c.args.dir c.args.found c.args.name.now c.args.to_dir c.args.to_name.now c.self.view_is c.self.invariant.0 c.self.invariant.1 c.requires.may in
    let absent : entry_at c.self.inside.map.entries c.args.dir.0 c.args.name.now ≡ None = subst (λ (s : ServedState). entry_at s.map.entries c.args.dir.0 c.args.name.now ≡ None) (sym c.self.view_is) c.requires.unnumbered in
    let r = ap (λ (s : ServedState). child_of s.tree c.args.found.to_dir c.args.to_name.now) c.self.view_is ∙ c.requires.stood in
    let is = c.in-Some.is in
    let stood : child_of c.self.inside.tree c.args.found.to_dir c.args.to_name.now ≡ Some c.in-Some.file = cc (r, is) in
    let none = sym (taken-none c.self.inside.map c.args.to_dir c.args.to_name.now c.in-Some.file (sym c.in_default-taken.is ∙ c.number_for-taken.ensures.number)) in
    let same = moved-none c.self.inside.map c.args.dir c.args.name.now c.args.to_dir c.args.to_name.now _ (Some c.in-Some.file) absent stood in
    let k = moved-knows _ _ _ _ _ _ _ _ c.self.inside.map c.rename.new.self may (none ∙ same) c.in_ok-rename.ensures.renamed c.self.invariant.2 c.self.invariant.3 in
    (c.rename.ensures.is_tree, k.sound, k.remembered, k.loaded)
