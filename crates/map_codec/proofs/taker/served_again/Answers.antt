use Rattle.std.proofs.Common.{sym, subst}
use Rattle.map_codec.specs.Handover.{IsServingRefusal}
use Rattle.map_codec.proofs.Told.{raise_refused}
use Rattle.map_codec.proofs.taker.served_again.Goals as goal

pub returns-in-Err-clause-refused : goal.returns-in-Err-clause-refused
returns-in-Err-clause-refused c = subst (IsServingRefusal c.args.manifest.now c.args.image) (sym c.raise_told.ensures) (raise_refused c.args.manifest.now c.args.image c.in-Err.fault c.in-Err.ensures.refused)
