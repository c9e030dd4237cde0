use Rattle.map_codec.proofs.taker.image_fed.Goals as goal

pub returns-in-Err-clause-refused : goal.returns-in-Err-clause-refused
returns-in-Err-clause-refused c = λ image version is. let no = (c.in-Err.ensures.only image version is).1 in cc
