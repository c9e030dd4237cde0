use Rattle.map_codec.proofs.HandedOver.{can_be_taken, taken_knows}
use Rattle.map_codec.proofs.laws.handover_keeps_what_is_known.Goals as goal

pub returns : goal.returns
returns c = record { keeps = taken_knows; taken = can_be_taken }
