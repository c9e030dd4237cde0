use Rattle.std.proofs.lemmas.List.{drop-drop}
use Rattle.fuse_wire.proofs.item.Item.read.Goals as goal

pub returns-clause-item : goal.returns-clause-item
returns-clause-item c = let second = drop-drop 8 c.args.fields.now.at c.args.fields.now.bytes.now in cc
