use Rattle.std.proofs.Common.{◌≡◌, drop, refl, arith}
use Rattle.fuse_wire.specs.Field.{u32_at, u64_at}
use Rattle.fuse_wire.specs.ReplyReading.{attr_at}
use Rattle.fuse_wire.proofs.reply_reader.attributes_at.Goals as goal

pub returns-clause-attr : goal.returns-clause-attr
unfolding attr_at
returns-clause-attr c =
    let bytes = drop c.args.offset c.args.bytes.now in
    let at8 : c.u64.new.self.at ≡ 8 = omega arith in
    let at60 : c.skip.new.self.at ≡ 60 = omega arith in
    let at64 : c.u32-mode.new.self.at ≡ 64 = omega arith in
    let size_is : c.u64-size.result ≡ u64_at (drop 8 bytes) = cc in
    let mode_is : c.u32-mode.result ≡ u32_at (drop 60 bytes) = cc in
    let nlink_is : c.u32-nlink.result ≡ u32_at (drop 64 bytes) = cc in
    rw (c.kind_of.ensures, c.perm_of.ensures, size_is, nlink_is, mode_is) refl
