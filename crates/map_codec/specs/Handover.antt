-- What one daemon hands to the next as bytes, and what is served again from bytes. (This project's own; EdenFS's
-- daemon sends a serialised inode map, and the next one takes it as it is.)
use Rattle.std.specs.Prelude.{◌≡◌, ◌≢◌, ℕ, true, List, None, is_some, Ok}
use Rattle.manifest.specs.Manifest.{Manifest}
use Rattle.fuse_ops.specs.Served.{ServedState}
use Rattle.fuse_ops.specs.Soundness.{IsSound}
use Rattle.map_image.specs.ImageReading.{HasHeader, header_of_bytes}
use Rattle.map_image.specs.ImageText.{IsImageText}
use Rattle.map_image.specs.Versions.{form_of, named_by}
use Rattle.map_image.specs.declared.fault.ImageFault.{ImageFault}
use Rattle.map_image.specs.declared.fault.ImageFault.TheVariants as reading
use Rattle.map_image.specs.declared.fault.WriteFault.{WriteFault}
use Rattle.map_image.specs.declared.fault.WriteFault.TheVariants as writing
use Rattle.map_image.specs.declared.header.ImageHeader.{ImageHeader}
use Rattle.map_codec.specs.Raising.{IsRaisable, IsRaised, IsRaiseRefusal}
use Rattle.map_codec.specs.Taking.{IsImageOf, IsNameOf}
use Rattle.map_image.specs.Writing.{refusal}
use Rattle.map_image.specs.declared.image.Image.{Image}
use Rattle.map_codec.specs.declared.fault.HandoverFault.{HandoverFault}
use Rattle.map_codec.specs.declared.fault.HandoverFault.TheVariants.{Refused, NoMemory}
use Rattle.map_codec.specs.declared.fault.RaiseFault.{RaiseFault}
use Rattle.map_codec.specs.declared.fault.RaiseFault.TheVariants as raising

-- ---- what a fault is told as: memory may suffice the next time, and any other cause stays

abbrev pub told_of_write : WriteFault → HandoverFault
told_of_write writing.NoMemory = NoMemory
told_of_write fault = Refused

abbrev pub told_of_read : ImageFault → HandoverFault
told_of_read reading.NoMemory = NoMemory
told_of_read fault = Refused

abbrev pub told_of_raise : RaiseFault → HandoverFault
told_of_raise raising.NoMemory = NoMemory
told_of_raise fault = Refused

-- ---- handing over

-- the bytes are the text of the image of what is served at a generation, in a version in which it may be written
pub record IsHandedOver (served : ServedState) (at version : ℕ) (bytes : List ℕ) : Type 0 where
  pub image : Image
  pub is_image : IsImageOf served at (named_by version) image
  pub accepted : refusal image version ≡ None
  pub text : IsImageText image version bytes

-- the image of what is served has no text in this version that may be written
abbrev pub CannotBeHandedOver : ServedState → ℕ → ℕ → Type 0
CannotBeHandedOver served at version =
    (image : Image) → IsImageOf served at (named_by version) image → refusal image version ≢ None

-- an image is not written for this cause: it has no such text, or memory was refused and there is no other cause
abbrev pub IsTextRefusal : Image → ℕ → HandoverFault → Type 0
IsTextRefusal image version Refused = refusal image version ≢ None
IsTextRefusal image version NoMemory = refusal image version ≡ None

-- nothing is handed over for this cause: the image cannot be written, or memory was refused and there is such a version
abbrev pub IsHandingRefusal : ServedState → ℕ → ℕ → HandoverFault → Type 0
IsHandingRefusal served at version Refused = CannotBeHandedOver served at version
IsHandingRefusal served at version NoMemory = is_some (form_of version) ≡ true

-- ---- taking over

-- this is what is restored over a manifest from bytes that are the text of an image of this generation
pub record IsTakenOver (manifest : Manifest) (limit at : ℕ) (bytes : List ℕ) (served : ServedState) : Type 0 where
  pub image : Image
  pub version : ℕ
  pub text : IsImageText image version bytes
  pub generation : image.generation ≡ at
  pub raisable : IsRaisable manifest image
  pub is : IsRaised manifest image limit served
  pub sound : IsSound served

-- no image of this generation that has this text may be restored over the manifest
abbrev pub CannotBeTakenOver : Manifest → ℕ → List ℕ → Type 0
CannotBeTakenOver manifest at bytes =
    (image : Image) (version : ℕ) → IsImageText image version bytes → image.generation ≡ at →
    IsRaisable manifest image → ⊥

-- the header of the bytes is whole and right, of this generation and of the manifest
pub record HasRightHeader (manifest : Manifest) (at : ℕ) (bytes : List ℕ) : Type 0 where
  pub header : ImageHeader
  pub is : header_of_bytes bytes ≡ Ok header
  pub generation : header.generation ≡ at
  pub name : IsNameOf manifest header.name

-- the header of the bytes is whole and right, and names another manifest
pub record NamesAnother (manifest : Manifest) (bytes : List ℕ) : Type 0 where
  pub header : ImageHeader
  pub is : header_of_bytes bytes ≡ Ok header
  pub another : IsNameOf manifest header.name → ⊥

-- no image is read for this cause: the bytes are no image, or memory was refused after their header
abbrev pub IsReadRefusal : List ℕ → HandoverFault → Type 0
IsReadRefusal bytes Refused = (image : Image) (version : ℕ) → IsImageText image version bytes → ⊥
IsReadRefusal bytes NoMemory = HasHeader bytes

-- nothing is restored for this cause: the image may not be restored, or memory was refused when `raise` may say so
abbrev pub IsServingRefusal : Manifest → Image → HandoverFault → Type 0
IsServingRefusal manifest image Refused = IsRaisable manifest image → ⊥
IsServingRefusal manifest image NoMemory = IsRaiseRefusal manifest image raising.NoMemory

-- nothing is taken over for this cause: it cannot be taken over, or memory was refused after a right header
abbrev pub IsTakingRefusal : Manifest → ℕ → List ℕ → HandoverFault → Type 0
IsTakingRefusal manifest at bytes Refused = CannotBeTakenOver manifest at bytes
IsTakingRefusal manifest at bytes NoMemory = HasRightHeader manifest at bytes
