-- What is loaded is true, and becomes the most recent.
use Rattle.std.proofs.Common.{sym, ap, ◌∙◌, subst}
use Rattle.inode_map.specs.InodeMap.{MapState, attr_of}
use Rattle.fuse_ops.specs.Gifts.{served_over}
use Rattle.fuse_ops.specs.Served.{ServedState, plain}
use Rattle.fuse_ops.specs.Soundness.{AreLoaded}
use Rattle.fuse_ops.specs.Work.{lacks_name}
use Rattle.fuse_ops.proofs.Loaded.{loaded-attr, used-true}
use Rattle.fuse_ops.proofs.Making.{sound-plainly}
use Rattle.fuse_ops.proofs.Remembering.{plainly-remembers}
use Rattle.fuse_ops.proofs.served.Served.loaded.Goals as goal

pub invariant_of-self : goal.invariant_of-self
invariant_of-self c =
    let old = served_over c.self.inside.tree c.self.inside.map in
    let plainly = ap (λ (m : MapState). plain (served_over c.self.inside.tree m)) c.attr.ensures.used in (
      c.self.invariant.0,
      sound-plainly old (served_over c.self.inside.tree c.attr.new.self) plainly c.self.invariant.1,
      plainly-remembers old (served_over c.self.inside.tree c.attr.new.self) plainly (ap (λ (m : MapState). m.remembered) c.attr.ensures.used) c.self.invariant.2,
      subst (λ (m : MapState). AreLoaded (served_over c.self.inside.tree m)) (sym c.attr.ensures.used) (used-true old c.args.number.0 c.self.invariant.3),
    )

pub invariant_of-self-2 : goal.invariant_of-self-2
invariant_of-self-2 c =
    let old = served_over c.self.inside.tree c.self.inside.map in
    let plainly = ap (λ (m : MapState). plain (served_over c.self.inside.tree m)) c.attr.ensures.used in (
      c.self.invariant.0,
      sound-plainly old (served_over c.self.inside.tree c.attr.new.self) plainly c.self.invariant.1,
      plainly-remembers old (served_over c.self.inside.tree c.attr.new.self) plainly (ap (λ (m : MapState). m.remembered) c.attr.ensures.used) c.self.invariant.2,
      subst (λ (m : MapState). AreLoaded (served_over c.self.inside.tree m)) (sym c.attr.ensures.used) (used-true old c.args.number.0 c.self.invariant.3),
    )

pub returns-clause-attr : goal.returns-clause-attr
returns-clause-attr c = λ file names unlinked.
    loaded-attr c.args.self.now c.args.number.0 file (lacks_name c.args.linkage) c.nlink.result c.in_ok-loaded.loaded (subst AreLoaded c.self.view_is c.self.invariant.3) names unlinked c.nlink.ensures
    (ap (λ (s : ServedState). attr_of s.map.loaded c.args.number.0) (sym c.self.view_is) ∙ sym c.attr.ensures.attr ∙ c.in_ok-loaded.was)
