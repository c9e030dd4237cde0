use Rattle.map_image.proofs.LongestLaws.{no_longer}
use Rattle.map_codec.proofs.laws.handover_keeps_to_the_longest.Goals as goal

pub returns : goal.returns
returns c = record { keeps = λ at version bytes made handed. no_longer handed.image version bytes handed.text handed.accepted }
