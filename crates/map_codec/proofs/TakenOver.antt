-- What follows the reading of an image in a takeover: it is raised, or something stands against that.
use Rattle.std.proofs.Common.{◌≡◌, ℕ, List, Result, Ok, Err, ap, sym, subst, ◌∙◌}
use Rattle.std.specs.Prelude.{IfErr, IfOk}
use Rattle.fuse_ops.specs.Served.{ServedState}
use Rattle.fuse_ops.specs.Soundness.{IsSound}
use Rattle.manifest.specs.Manifest.{Manifest}
use Rattle.map_image.specs.ImageText.{IsImageText}
use Rattle.map_image.specs.declared.image.Image.{Image}
use Rattle.map_codec.specs.Handover.{CannotBeTakenOver, IsServingRefusal, IsTakenOver, IsTakingRefusal}
use Rattle.map_codec.specs.Raising.{IsRaisable, IsRaised}
use Rattle.map_codec.specs.declared.fault.HandoverFault.{HandoverFault}
use Rattle.map_codec.specs.declared.fault.HandoverFault.TheVariants.{Refused, NoMemory}
use Rattle.map_codec.proofs.OneImage.{one_of_text}
use Rattle.map_codec.proofs.RightHeader.{right_header}

-- an image of this generation was read
pub record IsRead (at : ℕ) (bytes : List ℕ) (image : Image) : Type 0 where
  pub text : (version : ℕ) × IsImageText image version bytes
  pub generation : image.generation ≡ at

-- an image of another generation was
pub other_generation : (m : Manifest) (at : ℕ) (bytes : List ℕ) (image : Image) → (version : ℕ) × IsImageText image version bytes → (image.generation ≡ at → ⊥) → CannotBeTakenOver m at bytes
other_generation m at bytes image text not other version is same may =
    let one : other ≡ image = one_of_text other image version text.0 bytes is text.1 in
    not (ap (λ (i : Image). i.generation) (sym one) ∙ same)

-- it cannot be raised
pub not_raised : (m : Manifest) (at : ℕ) (bytes : List ℕ) (image : Image) → IsRead at bytes image → (r : Result ServedState HandoverFault) → IfErr r (IsServingRefusal m image) → IfErr r (IsTakingRefusal m at bytes)
not_raised m at bytes image read (Ok served) refused = tt
not_raised m at bytes image read (Err Refused) refused = λ other version is same may.
    refused (subst (IsRaisable m) (one_of_text other image version read.text.0 bytes is read.text.1) may)
not_raised m at bytes image read (Err NoMemory) refused =
    right_header m at bytes image read.text.0 read.text.1 read.generation refused.0

-- it was raised
pub taken_over : (m : Manifest) (at limit : ℕ) (bytes : List ℕ) (image : Image) → IsRead at bytes image → (r : Result ServedState HandoverFault) → IfOk r (λ served. IsRaisable m image) → IfOk r (IsRaised m image limit) → IfOk r IsSound → IfOk r (IsTakenOver m limit at bytes)
taken_over m at limit bytes image read (Err fault) may is sound = tt
taken_over m at limit bytes image read (Ok served) may is sound = record {
  image = image;
  version = read.text.0;
  text = read.text.1;
  generation = read.generation;
  raisable = may;
  is = is;
  sound = sound;
}
