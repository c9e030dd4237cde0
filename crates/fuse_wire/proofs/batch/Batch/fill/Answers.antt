use Rattle.std.proofs.Common.{◌≡◌, ◌+◌, ◌*◌, List, [], ◌∷◌, ◌++◌, drop, sym, subst, arith}
use Rattle.fuse_wire.specs.declared.item.Item.{Item}
use Rattle.fuse_wire.specs.RequestBody.{item_at}
use Rattle.fuse_wire.proofs.ItemsRead.{AreRead, goes_on, is_done}
use Rattle.fuse_wire.proofs.batch.Batch.fill.Goals as goal

pub loop-preserved : goal.loop-preserved
loop-preserved c =
    let done = c.loop.counter in
    let bytes = c.args.bytes.now in
    let item : c.push_reserved.new.self.items ≡ c.loop.items.items ++ item_at (drop (16 * done) bytes) ∷ [] = cc in
    let next = goes_on c.loop.items.items done c.args.count bytes c.loop-test.true c.loop.invariant.4 in
    let P : List Item → Type 0 = λ items. AreRead items (done + 1) c.args.count bytes in
    (cc, omega arith, omega arith, omega arith, subst P (sym item) next)

pub returns : goal.returns
returns c = is_done c.loop.items.items c.loop.counter c.args.count c.args.bytes.now c.loop-test.false c.loop.invariant.4
