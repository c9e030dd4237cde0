-- No two changes that are good by themselves stand at one place.
use Rattle.std.proofs.Common.{sym, subst}
use Rattle.checkout.specs.Laying.{StandApart}
use Rattle.checkout.proofs.LaidTree.{stand_apart}
use Rattle.checkout.proofs.changes.laid.taken.Goals as goal

pub taken-requires : goal.taken-requires
taken-requires c = record { apart = subst StandApart (sym c.as_slice.ensures.links) (stand_apart c.args.manifest.now c.args.changes.now c.requires.is_manifest c.requires.itself) }
