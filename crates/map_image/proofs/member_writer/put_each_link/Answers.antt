use Rattle.std.proofs.Common.{arith}
use Rattle.map_image.specs.ImageText.{link_text, FitsLink}
use Rattle.map_image.proofs.Members.{all_put, none_put, put_next, room_for}
use Rattle.map_image.proofs.member_writer.put_each_link.Goals as goal

pub put_link-requires : goal.put_link-requires
put_link-requires c =
    let room = room_for link_text c.args.links.now c.loop-link.link-index c.link-item.result c.loop-link-test.true c.link-item.is in
    omega (arith, room, c.requires, c.loop-link.invariant.lines.len, c.loop-link.invariant.lines.capacity)

pub loop-link-preserved : goal.loop-link-preserved
loop-link-preserved c =
    put_next link_text FitsLink c.args.out.now c.loop-link.out c.put_link.new.out c.args.links.now c.loop-link.link-index c.link-item.result c.loop-link-test.true c.link-item.is c.loop-link.invariant c.put_link.ensures.text c.put_link.ensures.fits

pub loop-link-init : goal.loop-link-init
loop-link-init c = none_put link_text FitsLink c.args.out.now

pub returns-clause-text : goal.returns-clause-text
returns-clause-text c = (all_put link_text FitsLink c.args.out.now c.loop-link.out c.args.links.now c.loop-link.link-index c.loop-link-test.false c.loop-link.invariant).lines

pub returns-clause-fits : goal.returns-clause-fits
returns-clause-fits c = (all_put link_text FitsLink c.args.out.now c.loop-link.out c.args.links.now c.loop-link.link-index c.loop-link-test.false c.loop-link.invariant).fit
