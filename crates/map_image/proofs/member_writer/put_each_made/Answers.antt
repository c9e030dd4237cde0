use Rattle.std.proofs.Common.{arith}
use Rattle.map_image.specs.ImageText.{made_text, FitsMade}
use Rattle.map_image.proofs.Members.{all_put, none_put, put_next, room_for}
use Rattle.map_image.proofs.member_writer.put_each_made.Goals as goal

pub put_made-requires : goal.put_made-requires
put_made-requires c =
    let room = room_for made_text c.args.files.now c.loop-made.made-index c.made-item.result c.loop-made-test.true c.made-item.is in
    omega (arith, room, c.requires, c.loop-made.invariant.lines.len, c.loop-made.invariant.lines.capacity)

pub loop-made-preserved : goal.loop-made-preserved
loop-made-preserved c =
    put_next made_text FitsMade c.args.out.now c.loop-made.out c.put_made.new.out c.args.files.now c.loop-made.made-index c.made-item.result c.loop-made-test.true c.made-item.is c.loop-made.invariant c.put_made.ensures.text c.put_made.ensures.fits

pub loop-made-init : goal.loop-made-init
loop-made-init c = none_put made_text FitsMade c.args.out.now

pub returns-clause-text : goal.returns-clause-text
returns-clause-text c = (all_put made_text FitsMade c.args.out.now c.loop-made.out c.args.files.now c.loop-made.made-index c.loop-made-test.false c.loop-made.invariant).lines

pub returns-clause-fits : goal.returns-clause-fits
returns-clause-fits c = (all_put made_text FitsMade c.args.out.now c.loop-made.out c.args.files.now c.loop-made.made-index c.loop-made-test.false c.loop-made.invariant).fit
