use Rattle.map_image.proofs.PartsLaws.{counted, few, one_cutting, some}
use Rattle.map_image.proofs.laws.parts_of_a_text.Goals as goal

pub returns : goal.returns
returns c = record { some = some; one = one_cutting; counted = counted; few = few }
