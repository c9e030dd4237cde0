use Rattle.std.proofs.Common.{sym, subst}
use Rattle.map_codec.specs.Handover.{IsTextRefusal}
use Rattle.map_codec.proofs.Told.{text_refused}
use Rattle.map_codec.proofs.giver.text_of.Goals as goal

pub returns-in-Err-clause-refused : goal.returns-in-Err-clause-refused
returns-in-Err-clause-refused c = subst (IsTextRefusal c.args.image.now c.args.version) (sym c.write_told.ensures) (text_refused c.args.image.now c.args.version c.in-Err.fault c.in-Err.ensures.refused)
