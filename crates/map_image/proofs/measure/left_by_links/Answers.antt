use Rattle.std.proofs.Common.{arith}
use Rattle.map_image.specs.ImageText.{link_text}
use Rattle.map_image.proofs.Members.{room_for}
use Rattle.map_image.proofs.measure.left_by_links.Goals as goal

pub returns-in_default-clause-left : goal.returns-in_default-clause-left
returns-in_default-clause-left c =
    let room = room_for link_text c.args.links.now c.loop-link.link-index c.link-item.result c.loop-link-test.true c.link-item.is in
    omega (arith, room, c.loop-link.invariant.0, c.link_len.ensures.len, c.in_default.ensures)
