use Rattle.std.proofs.Common.{sym, subst}
use Rattle.map_codec.specs.Handover.{IsReadRefusal}
use Rattle.map_codec.proofs.Told.{read_refused}
use Rattle.map_codec.proofs.taker.image_told.Goals as goal

pub returns-in-Err-clause-refused : goal.returns-in-Err-clause-refused
returns-in-Err-clause-refused c = subst (IsReadRefusal c.args.bytes.now) (sym c.read_told.ensures) (read_refused c.args.bytes.now c.in-Err.fault c.in-Err.ensures.only c.in-Err.ensures.late)
