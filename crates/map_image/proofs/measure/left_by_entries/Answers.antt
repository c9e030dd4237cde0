use Rattle.std.proofs.Common.{arith}
use Rattle.map_image.specs.ImageText.{entry_text}
use Rattle.map_image.proofs.Members.{room_for}
use Rattle.map_image.proofs.measure.left_by_entries.Goals as goal

pub returns-in_default-clause-left : goal.returns-in_default-clause-left
returns-in_default-clause-left c =
    let room = room_for (entry_text c.args.width) c.args.entries.now c.loop-kept.kept-index c.kept-item.result c.loop-kept-test.true c.kept-item.is in
    omega (arith, room, c.loop-kept.invariant.0, c.entry_len.ensures.len, c.in_default.ensures)
