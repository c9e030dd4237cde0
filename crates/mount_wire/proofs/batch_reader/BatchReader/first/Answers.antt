use Rattle.std.proofs.Common.{◌≡◌, [], ◌∷◌, ◌-◌, List, Some, drop, slice_get, sym, ap, ◌∙◌, arith}
use Rattle.fuse_wire.specs.declared.item.Item.{Item}
use Rattle.fuse_wire.specs.RequestBody.{item_at, items_at}
use Rattle.mount_wire.proofs.Items.{no_items, some_items}
use Rattle.mount_wire.proofs.batch_reader.BatchReader.first.Goals as goal

pub returns-then-self-eq0 : goal.returns-then-self-eq0
returns-then-self-eq0 c =
    let is : c.args.self.now ≡ [] = sym c.self.view_is ∙ no_items c.self.inside.count c.self.inside.bytes.now (omega arith) in
    record { first = ap (λ (items : List Item). slice_get items 0) (sym is) }

pub returns : goal.returns
returns c =
    let bytes = c.self.inside.bytes.now in
    let count = c.self.inside.count in
    let is : c.args.self.now ≡ item_at bytes ∷ items_at (count - 1) (drop 16 bytes) = sym c.self.view_is ∙ some_items count bytes (omega arith) in
    record { first = ap (λ (item : Item). Some item) c.item_at.ensures ∙ ap (λ (items : List Item). slice_get items 0) (sym is) }
