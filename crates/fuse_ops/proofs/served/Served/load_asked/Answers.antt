-- What is asked for is true.
use Rattle.std.proofs.Common.{◌≡◌, ap, sym, subst}
use Rattle.checkout.specs.ChangedTree.{is_unlinked}
use Rattle.inode_map.specs.InodeMap.{MapState}
use Rattle.fuse_ops.specs.Gifts.{served_over}
use Rattle.fuse_ops.specs.Served.{ServedState, plain}
use Rattle.fuse_ops.specs.Soundness.{Names, AreLoaded}
use Rattle.fuse_ops.specs.Work.{lacks_name}
use Rattle.fuse_ops.proofs.Known.{named-file}
use Rattle.fuse_ops.proofs.Loaded.{attr-content, load-true}
use Rattle.fuse_ops.proofs.Making.{sound-plainly}
use Rattle.fuse_ops.proofs.Remembering.{plainly-remembers}
use Rattle.fuse_ops.proofs.served.Served.load_asked.Goals as goal

pub ask-requires-clause-there : goal.ask-requires-clause-there
ask-requires-clause-there g c =
    let names = subst (λ (s : ServedState). Names s c.args.number.0 c.args.located.file) (sym c.self.view_is) c.requires.names in
    named-file (served_over c.self.inside.tree c.self.inside.map) c.self.invariant.0 c.self.invariant.1 c.args.number.0 c.args.located.file names

pub invariant_of-self : goal.invariant_of-self
invariant_of-self g c =
    let old = served_over c.self.inside.tree c.self.inside.map in
    let plainly = ap (λ (m : MapState). plain (served_over c.self.inside.tree m)) c.load.ensures.loaded in
    let names = subst (λ (s : ServedState). Names s c.args.number.0 c.args.located.file) (sym c.self.view_is) c.requires.names in (
      c.self.invariant.0,
      sound-plainly old (served_over c.self.inside.tree c.load.new.self) plainly c.self.invariant.1,
      plainly-remembers old (served_over c.self.inside.tree c.load.new.self) plainly (ap (λ (m : MapState). m.remembered) c.load.ensures.loaded) c.self.invariant.2,
      subst (λ (m : MapState). AreLoaded (served_over c.self.inside.tree m)) (sym c.load.ensures.loaded)
          (load-true old c.args.number c.in_ok-told.told c.args.located.file names (attr-content c.self.inside.tree c.args.located.file c.in_ok-told.told c.in_ok-told.ensures.attr) c.self.invariant.3),
    )

pub ask-requires-clause-linkage : goal.ask-requires-clause-linkage
ask-requires-clause-linkage g c = subst (λ (s : ServedState). is_unlinked s.tree c.args.located.file ≡ lacks_name c.args.located.linkage) (sym c.self.view_is) c.requires.linkage
