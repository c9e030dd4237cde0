use Rattle.std.proofs.Common.{Err, refl, ap, ◌∙◌}
use Rattle.map_image.specs.declared.fault.ImageFault.{ImageFault}
use Rattle.map_image.proofs.ReadingLaws.{front_cut, front_on, front_refused, refused_stops}
use Rattle.map_image.proofs.reading.Reading.take_front.Goals as goal

pub returns-in-Ok-clause-reads : goal.returns-in-Ok-clause-reads
returns-in-Ok-clause-reads c = front_on _ _ c.in-Ok.front c.args.bytes.now c.in-Ok.rest.now c.in-AtFront.is refl refl refl refl c.in-Ok.ensures

pub returns-in-Short-clause-cut : goal.returns-in-Short-clause-cut
returns-in-Short-clause-cut c = λ le whole. front_cut _ c.args.bytes.now c.in-AtFront.is (c.in-Err.ensures.1 ∙ ap (λ (f : ImageFault). Err f) c.in-Short.is)

pub returns-in_default-fault-clause-reads : goal.returns-in_default-fault-clause-reads
returns-in_default-fault-clause-reads c = refused_stops _ _ _ (front_refused _ c.args.bytes.now c.in-Err.fault c.in-AtFront.is c.in_default-fault.not-Short c.in-Err.ensures.1)
