-- The file that is remembered for the name's number stands under the name.
use Rattle.std.proofs.Common.{sym, ◌∙◌}
use Rattle.fuse_ops.specs.Gifts.{served_over}
use Rattle.fuse_ops.proofs.MovedKeeps.{recalled-child}
use Rattle.fuse_ops.proofs.served.Served.file_under.Goals as goal

pub returns-in-Some-recall : goal.returns-in-Some-recall
returns-in-Some-recall c =
    record {
      file = sym (recalled-child (served_over c.self.inside.tree c.self.inside.map) c.args.self.now c.args.from c.args.dir c.args.name.now c.in-Some.number c.in-Some-recall.file c.self.view_is c.self.invariant.1 c.self.invariant.2 c.requires.at (sym c.in-Some.is ∙ c.requires.number) (sym c.recall.ensures.file ∙ c.in-Some-recall.is));
    }
