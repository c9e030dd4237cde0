use Rattle.std.proofs.Common.{◌≡◌, ℕ, true, false, List, refl, subst, sym}
use Rattle.std.proofs.lemmas.Result.{err_from_is_err_and}
use Rattle.manifest.specs.Manifest.{Manifest}
use Rattle.map_image.specs.ImageText.{IsImageText}
use Rattle.map_image.specs.declared.image.Image.{Image}
use Rattle.map_codec.specs.Handover.{CannotBeTakenOver, HasRightHeader, IsReadRefusal, IsTakingRefusal}
use Rattle.map_codec.specs.declared.fault.HandoverFault.{HandoverFault}
use Rattle.map_codec.specs.declared.fault.HandoverFault.TheVariants.{Refused, NoMemory}
use Rattle.map_codec.proofs.RightHeader.{generation_is, right_header}
use Rattle.map_codec.proofs.TakenOver.{not_raised, taken_over, IsRead}
use Rattle.map_codec.proofs.taker.take_over.Goals as goal

-- bytes without a right header are no image that may be taken over
wrong_header : (m : Manifest) (at : ℕ) (bytes : List ℕ) → (HasRightHeader m at bytes → ⊥) → CannotBeTakenOver m at bytes
wrong_header m at bytes wrong image version is same may = wrong (right_header m at bytes image version is same may.tree.name)

-- nothing was read
none_read : (m : Manifest) (at : ℕ) (bytes : List ℕ) → HasRightHeader m at bytes → (fault : HandoverFault) → IsReadRefusal bytes fault → IsTakingRefusal m at bytes fault
none_read m at bytes right Refused refused = λ image version is same may. refused image version is
none_read m at bytes right NoMemory refused = right

-- an image was read after a right header
is_read : (m : Manifest) (at : ℕ) (bytes : List ℕ) (image : Image) → HasRightHeader m at bytes → (version : ℕ) × IsImageText image version bytes → IsRead at bytes image
is_read m at bytes image right text = record { text = text; generation = generation_is m at bytes image text.0 text.1 right }

pub returns-then-not-has_right_header-clause-refused : goal.returns-then-not-has_right_header-clause-refused
returns-then-not-has_right_header-clause-refused c = wrong_header c.args.manifest.now c.args.generation c.args.bytes.now (λ right. let no : false ≡ true = c.if-not-has_right_header.ensures.1 right in cc)

pub returns-in_err-image-clause-refused : goal.returns-in_err-image-clause-refused
returns-in_err-image-clause-refused c =
    let p = err_from_is_err_and c.from_residual.result c.from_residual.ensures.1 in
    rw p.1 (subst (IsTakingRefusal c.args.manifest.now c.args.generation c.args.bytes.now) (sym p.2) (none_read c.args.manifest.now c.args.generation c.args.bytes.now (c.if-not-has_right_header.ensures.0 refl) c.in_err-image.field-0.0 c.in_err-image.ensures.refused))

pub returns-clause-taken : goal.returns-clause-taken
returns-clause-taken c =
    let read = is_read c.args.manifest.now c.args.generation c.args.bytes.now c.in_ok-image.image (c.if-not-has_right_header.ensures.0 refl) c.in_ok-image.ensures.text in
    taken_over c.args.manifest.now c.args.generation c.args.limit c.args.bytes.now c.in_ok-image.image read c.served_again.result c.served_again.ensures.accepted c.served_again.ensures.raised c.served_again.ensures.sound

pub returns-clause-refused : goal.returns-clause-refused
returns-clause-refused c =
    let read = is_read c.args.manifest.now c.args.generation c.args.bytes.now c.in_ok-image.image (c.if-not-has_right_header.ensures.0 refl) c.in_ok-image.ensures.text in
    not_raised c.args.manifest.now c.args.generation c.args.bytes.now c.in_ok-image.image read c.served_again.result c.served_again.ensures.refused
