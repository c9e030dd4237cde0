-- What is told is the file's.
use Rattle.std.proofs.Common.{◌≡◌, Some, refl, sym, subst, inl, inr}
use Rattle.checkout.specs.ChangedTree.{attr_of}
use Rattle.fuse_ops.specs.Served.{ServedState, IsUnloaded}
use Rattle.fuse_ops.proofs.Asking.{failed-known, not-both, shown-known, unshown-known}
use Rattle.fuse_ops.proofs.served.Served.get_attr.Goals as goal

pub returns-in-Ok-clause-answer : goal.returns-in-Ok-clause-answer
returns-in-Ok-clause-answer g c = record {
  file = Some c.in-Some.located.file;
  located = c.in-Some.ensures.located;
  shows = inl (c.in-Ok.attr, subst (λ (s : ServedState). attr_of s.tree c.in-Some.located.file ≡ Some c.in-Ok.attr) c.linked_file_of.ensures.unchanged c.in-Ok.ensures.attr, refl);
}

pub returns-in-Err-clause-answer : goal.returns-in-Err-clause-answer
returns-in-Err-clause-answer g c = record {
  file = Some c.in-Some.located.file;
  located = c.in-Some.ensures.located;
  shows = inr (refl, subst (λ (s : ServedState). IsUnloaded s c.in-Some.located.file) c.linked_file_of.ensures.unchanged c.in-Err.ensures.not_loaded);
}

pub returns-in_default-clause-as_known : goal.returns-in_default-clause-as_known
returns-in_default-clause-as_known g c =
    unshown-known c.args.self.now c.args.node _ (g.B.Backing.will_answer c.args.backing.now) c.in_default.ensures.located (λ e. let none : ⊥ = cc in none)

pub returns-in-Ok-clause-as_known : goal.returns-in-Ok-clause-as_known
returns-in-Ok-clause-as_known g c =
    shown-known c.args.self.now c.args.node c.in-Some.located.file _ (g.B.Backing.will_answer c.args.backing.now) c.in-Some.ensures.located
    (λ k u. not-both (c.in-Ok.ensures.failing k (subst (λ (s : ServedState). IsUnloaded s c.in-Some.located.file) (sym c.linked_file_of.ensures.unchanged) u))) (λ e. let none : ⊥ = cc in none)

pub returns-in-Err-clause-as_known : goal.returns-in-Err-clause-as_known
returns-in-Err-clause-as_known g c = failed-known _ (g.B.Backing.will_answer c.args.backing.now) (λ k. not-both (c.in-Err.ensures.answering k))
