use Rattle.std.proofs.Common.{length, ap, arith, length-take}
use Rattle.fuse_wire.specs.DirectoryEntries.{padding_len}
use Rattle.fuse_wire.proofs.Lengths.{length-zeros}
use Rattle.fuse_wire.proofs.entry_reader.name_in.Goals as goal

pub slice_bounds-ne-end : goal.slice_bounds-ne-end
slice_bounds-ne-end c =
    omega (arith, length-take (length c.padding-zeros.result.now) c.split_at.result.1.now, ap length c.padding-zeros.ensures, length-zeros (padding_len c.args.name_len), c.split_at.ensures.back_len)
