-- the test of items decides whether they are the same, so that of lists does
use Rattle.std.proofs.Common.{◌≡◌, true, rules}
use Rattle.std.specs.Cmp.Lexicographic.{pointwise_decides}
use Rattle.std.proofs.lemmas.Bool.Decides.{nat_tests}
use Rattle.fuse_wire.specs.Item.{same_item}
use Rattle.fuse_wire.specs.declared.item.Item.{Item}
use Rattle.fuse_wire.proofs.batch.Batch.is.Goals as goal

item_decides : (x y : Item) → (same_item x y ≡ true → x ≡ y) × (x ≡ y → same_item x y ≡ true)
item_decides x y = search (rules, nat_tests)

pub returns : goal.returns
returns c =
    let told = pointwise_decides item_decides c.args.self.now c.args.other.now in
    record { same = search (rules, told) }
