use Rattle.std.proofs.Common.{◌≤◌, length, arith}
use Rattle.fuse_wire.proofs.Written.{Puts-then}
use Rattle.fuse_wire.proofs.reply_writer.put_attributes.Goals as goal

pub returns-clause-attributes : goal.returns-clause-attributes
returns-clause-attributes c =
    let fits : c.args.fields.now.at ≤ length c.args.fields.now.bytes.now = omega arith in
    let two = Puts-then _ _ _ _ _ c.put_u64-2.ensures c.put_u64.ensures fits in
    let three = Puts-then _ _ _ _ _ c.put_zeros.ensures two fits in
    let four = Puts-then _ _ _ _ _ c.put_u32.ensures three fits in
    let five = Puts-then _ _ _ _ _ c.put_u32-2.ensures four fits in
    let six = Puts-then _ _ _ _ _ c.put_zeros-2.ensures five fits in
    let seven = Puts-then _ _ _ _ _ c.put_u32-3.ensures six fits in
    rw (← c.mode_of.ensures) (Puts-then _ _ _ _ _ c.put_zeros-3.ensures seven fits)
