use Rattle.std.proofs.Common.{take, length-take, arith}
use Rattle.fuse_wire.proofs.Lengths.{length-items}
use Rattle.fuse_wire.proofs.Written.{one_written}
use Rattle.fuse_wire.proofs.body_form.put_items.Goals as goal

pub put_item-requires : goal.put_item-requires
put_item-requires c =
    let done = take c.loop-item.item-index c.args.items.now in
    omega (arith, length-items c.args.items.now, length-items done, length-take c.loop-item.item-index c.args.items.now, c.loop-item.invariant.lines.after)

pub loop-item-preserved : goal.loop-item-preserved
loop-item-preserved c =
    one_written c.args.fields.now c.loop-item.fields c.put_item.new.fields c.args.items.now c.loop-item.item-index _ (omega arith) c.loop-item-test.true c.loop-item.invariant c.put_item.ensures.item c.put_item.ensures.fits
