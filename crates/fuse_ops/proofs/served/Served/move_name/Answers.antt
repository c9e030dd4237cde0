-- What the tree and the numbers are asked may be, and what is known after the move fits together.
use Rattle.std.proofs.Common.{◌≡◌, true, IfSome, ℕ, List, sym, ap, ◌∙◌, subst}
use Rattle.eden_base.specs.declared.number.Number.{Number}
use Rattle.checkout.specs.RenamedTree.{can_replace}
use Rattle.manifest.specs.Tree.{child_of}
use Rattle.std.specs.Option.{option_map}
use Rattle.entry_table.specs.Entries.{entry_at, number_of_kept, IsLinked}
use Rattle.fuse_ops.specs.Gifts.{served_over}
use Rattle.fuse_ops.specs.Served.{ServedState}
use Rattle.inode_map.specs.InodeMap.{MapState, MayGiveWay}
use Rattle.fuse_ops.proofs.MovedKeeps.{fits-take, may-take, may_replace_any, moved-knows, moved-some, numbered, moved-linked, moved-gives_way, spared-knows}
use Rattle.fuse_ops.proofs.served.Served.move_name.Goals as goal

pub rename-requires-clause-there : goal.rename-requires-clause-there
rename-requires-clause-there c =
    let may = may-take (served_over c.self.inside.tree c.self.inside.map) c.args.self.now c.args.dir c.args.found c.args.name.now c.args.to_dir c.args.to_name.now c.self.view_is c.self.invariant.0 c.self.invariant.1 c.requires.may in
    may.child

pub rename-requires-clause-replaced : goal.rename-requires-clause-replaced
rename-requires-clause-replaced c = ap (λ (s : ServedState). child_of s.tree c.args.found.to_dir c.args.to_name.now) c.self.view_is ∙ c.requires.stood

pub rename-requires-clause-other : goal.rename-requires-clause-other
rename-requires-clause-other c =
    let may = may-take (served_over c.self.inside.tree c.self.inside.map) c.args.self.now c.args.dir c.args.found c.args.name.now c.args.to_dir c.args.to_name.now c.self.view_is c.self.invariant.0 c.self.invariant.1 c.requires.may in
    λ same. may.other (rename-requires-clause-replaced c ∙ same)

pub rename-requires-clause-fits : goal.rename-requires-clause-fits
rename-requires-clause-fits c =
    let fits = fits-take (served_over c.self.inside.tree c.self.inside.map) c.args.self.now c.args.dir c.args.found c.args.name.now c.args.to_dir c.args.to_name.now c.self.view_is c.requires.may in
    subst (λ o. IfSome o (λ other. can_replace c.self.inside.tree c.args.found.file other ≡ true)) (rename-requires-clause-replaced c) (may_replace_any c.self.inside.tree c.args.found.file _ fits)

pub rename-requires-clause-not_above : goal.rename-requires-clause-not_above
rename-requires-clause-not_above c =
    let may = may-take (served_over c.self.inside.tree c.self.inside.map) c.args.self.now c.args.dir c.args.found c.args.name.now c.args.to_dir c.args.to_name.now c.self.view_is c.self.invariant.0 c.self.invariant.1 c.requires.may in
    may.not_above

pub invariant_of-self-in_err-rename : goal.invariant_of-self-in_err-rename
invariant_of-self-in_err-rename c =
    let k = spared-knows (served_over c.self.inside.tree c.self.inside.map) c.ready.new.map c.rename.new.self c.in_ok-own.ensures.room c.in_err-rename.ensures.unchanged c.self.invariant.1 c.self.invariant.2 c.self.invariant.3 in
    (c.rename.ensures.is_tree, k.sound, k.remembered, k.loaded)

pub relink-requires-clause-linked : goal.relink-requires-clause-linked
relink-requires-clause-linked c =
    let may = may-take (served_over c.self.inside.tree c.self.inside.map) c.args.self.now c.args.dir c.args.found c.args.name.now c.args.to_dir c.args.to_name.now c.self.view_is c.self.invariant.0 c.self.invariant.1 c.requires.may in
    let k = numbered c.self.inside.map.entries c.args.dir.0 c.args.name.now c.in-Some.number (sym c.in-Some.is ∙ c.requires.number ∙ ap (λ (s : ServedState). option_map number_of_kept (entry_at s.map.entries c.args.dir.0 c.args.name.now)) (sym c.self.view_is)) in
    let linked = moved-linked _ _ _ _ _ _ _ _ may k.0 k.1 in
    subst (λ (m : MapState). IsLinked m.entries c.in-Some.number.0) (sym c.in_ok-own.ensures.room) (subst (λ (n : Number). IsLinked c.self.inside.map.entries n.0) k.2 linked)

pub relink-requires-clause-gives_way : goal.relink-requires-clause-gives_way
relink-requires-clause-gives_way c =
    let may = may-take (served_over c.self.inside.tree c.self.inside.map) c.args.self.now c.args.dir c.args.found c.args.name.now c.args.to_dir c.args.to_name.now c.self.view_is c.self.invariant.0 c.self.invariant.1 c.requires.may in
    let k = numbered c.self.inside.map.entries c.args.dir.0 c.args.name.now c.in-Some.number (sym c.in-Some.is ∙ c.requires.number ∙ ap (λ (s : ServedState). option_map number_of_kept (entry_at s.map.entries c.args.dir.0 c.args.name.now)) (sym c.self.view_is)) in
    let way = moved-gives_way _ _ _ _ _ _ _ _ may k.0 k.1 c.args.other (ap (λ (s : ServedState). child_of s.tree c.args.found.to_dir c.args.to_name.now) c.self.view_is ∙ c.requires.stood) in
    subst (λ (m : MapState). MayGiveWay m.entries c.in-Some.number.0 c.args.other (entry_at m.entries c.args.to_dir.0 c.in_ok-own.own)) (sym c.in_ok-own.ensures.room)
    (subst (λ (b : List ℕ). MayGiveWay c.self.inside.map.entries c.in-Some.number.0 c.args.other (entry_at c.self.inside.map.entries c.args.to_dir.0 b)) (sym c.in_ok-own.ensures.name)
    (subst (λ (n : Number). MayGiveWay c.self.inside.map.entries n.0 c.args.other (entry_at c.self.inside.map.entries c.args.to_dir.0 c.args.to_name.now)) k.2 way))

pub invariant_of-self-2 : goal.invariant_of-self-2
invariant_of-self-2 c =
    let may = may-take (served_over c.self.inside.tree c.self.inside.map) c.args.self.now c.args.dir c.args.found c.args.name.now c.args.to_dir c.args.to_name.now c.self.view_is c.self.invariant.0 c.self.invariant.1 c.requires.may in
    let same = moved-some c.self.inside.map c.ready.new.map c.relink.new.self c.args.dir c.args.name.now c.args.to_dir c.args.to_name.now _ c.in-Some.number (child_of c.self.inside.tree c.args.found.to_dir c.args.to_name.now) _ c.in_ok-own.ensures.room (sym c.in-Some.is ∙ c.requires.number ∙ ap (λ (s : ServedState). option_map number_of_kept (entry_at s.map.entries c.args.dir.0 c.args.name.now)) (sym c.self.view_is)) c.in_ok-own.ensures.name (sym (ap (λ (s : ServedState). child_of s.tree c.args.found.to_dir c.args.to_name.now) c.self.view_is ∙ c.requires.stood)) c.relink.ensures.relinked in
    let k = moved-knows _ _ _ _ _ _ _ _ c.relink.new.self c.rename.new.self may same c.in_ok-rename.ensures.renamed c.self.invariant.2 c.self.invariant.3 in
    (c.rename.ensures.is_tree, k.sound, k.remembered, k.loaded)
