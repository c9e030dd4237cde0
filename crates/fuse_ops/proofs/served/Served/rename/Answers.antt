-- What is answered at once is what the move comes to.
use Rattle.std.proofs.Common.{◌≡◌, Some, sym, ap, ◌∙◌, subst}
use Rattle.manifest.specs.Tree.{child_of}
use Rattle.fuse_ops.specs.Served.{ServedState}
use Rattle.fuse_ops.specs.Work.{Moves, at_once}
use Rattle.fuse_ops.proofs.MovedKeeps.{once-moves}
use Rattle.fuse_ops.proofs.served.Served.rename.Goals as goal

pub returns-in-Some-clause-moves : goal.returns-in-Some-clause-moves
returns-in-Some-clause-moves c =
    let told : at_once c.args.self.now.tree c.in-Ok.found c.args.to_name.now ≡ Some c.in-Some.answer = ap (λ (s : ServedState). at_once s.tree c.in-Ok.found c.args.to_name.now) (sym c.movable.ensures.unchanged) ∙ sym (c.in-Some.ensures c.args.to_name.now (ap (λ (s : ServedState). child_of s.tree c.in-Ok.found.to_dir c.args.to_name.now) (sym c.self.view_is) ∙ sym c.child-other.ensures.child)) in
    subst (Moves c.args.self.now c.args.dir c.args.name.now c.args.to_dir c.args.to_name.now c.in-Some.answer) (sym c.movable.ensures.unchanged)
    (once-moves c.args.self.now c.args.dir c.in-Ok.found c.args.name.now c.args.to_dir c.args.to_name.now c.in-Some.answer c.in-Ok.ensures.is_tree c.in-Ok.ensures.found told)
