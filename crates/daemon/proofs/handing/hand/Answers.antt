-- A text has a form, and few parts.
use Rattle.daemon.proofs.HandingLemmas.{has_few}
use Rattle.daemon.proofs.handing.hand.Goals as goal

pub hand_parts-requires-clause-few : goal.hand_parts-requires-clause-few
hand_parts-requires-clause-few c = has_few c.args.daemon.now.server c.args.handover.generation c.args.handover.version c.args.text.items c.requires.data
