use Rattle.std.proofs.Common.{◌≡◌, ℕ, List, subst, sym}
use Rattle.std.proofs.lemmas.Result.{err_from_is_err_and}
use Rattle.manifest.specs.Manifest.{Manifest}
use Rattle.map_codec.specs.Handover.{IsReadRefusal, IsTakingRefusal}
use Rattle.map_codec.specs.declared.fault.HandoverFault.{HandoverFault}
use Rattle.map_codec.specs.declared.fault.HandoverFault.TheVariants.{Refused, NoMemory}
use Rattle.map_codec.proofs.TakenOver.{not_raised, other_generation, IsRead}
use Rattle.map_codec.proofs.taker.take_over_read.Goals as goal

-- the reader took no image
none_fed : (m : Manifest) (at : ℕ) (bytes : List ℕ) (fault : HandoverFault) → fault ≡ Refused → IsReadRefusal bytes fault → IsTakingRefusal m at bytes fault
none_fed m at bytes Refused told refused = λ image version is same may. refused image version is
none_fed m at bytes NoMemory told refused = absurd cc

pub returns-in_err-image-clause-refused : goal.returns-in_err-image-clause-refused
returns-in_err-image-clause-refused c =
    let p = err_from_is_err_and c.from_residual.result c.from_residual.ensures.1 in
    rw p.1 (subst (IsTakingRefusal c.args.manifest.now c.args.generation c.args.reader) (sym p.2) (none_fed c.args.manifest.now c.args.generation c.args.reader c.in_err-image.field-0.0 c.in_err-image.ensures.told c.in_err-image.ensures.refused))

pub returns-then-image-generation-clause-refused : goal.returns-then-image-generation-clause-refused
returns-then-image-generation-clause-refused c =
    let read : IsRead c.args.generation c.args.reader c.in_ok-image.image = record { text = c.in_ok-image.ensures.text; generation = c.if-image-generation.true } in
    not_raised c.args.manifest.now c.args.generation c.args.reader c.in_ok-image.image read c.served_again.result c.served_again.ensures.refused

pub returns-clause-refused : goal.returns-clause-refused
returns-clause-refused c = other_generation c.args.manifest.now c.args.generation c.args.reader c.in_ok-image.image c.in_ok-image.ensures.text c.if-image-generation.false
