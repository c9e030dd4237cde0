-- What is told of a fault is the refusal that the fault is.
use Rattle.std.proofs.Common.{◌≡◌, ◌≢◌, ℕ, List, Option, Some, None, Ok, inl, inr, refl}
use Rattle.checkout.specs.BadChanges.{Else, IsBadAround, IsBadChange, bad_by_other, bad_itself}
use Rattle.checkout.specs.declared.changes.Changes.{Changes}
use Rattle.manifest.specs.Manifest.{Manifest}
use Rattle.map_image.specs.ImageReading.{Fails, IsLate}
use Rattle.map_image.specs.ImageText.{IsImageText}
use Rattle.map_image.specs.Writing.{IsWriteRefusal, refusal}
use Rattle.map_image.specs.declared.fault.ImageFault.{ImageFault}
use Rattle.map_image.specs.declared.fault.ImageFault.TheVariants as reading
use Rattle.map_image.specs.declared.fault.WriteFault.{WriteFault}
use Rattle.map_image.specs.declared.fault.WriteFault.TheVariants as writing
use Rattle.map_image.specs.declared.image.Image.{Image}
use Rattle.map_codec.specs.Handover.{told_of_raise, told_of_read, told_of_write, IsReadRefusal, IsServingRefusal, IsTextRefusal}
use Rattle.map_codec.specs.Raising.{IsRaisable, IsRaiseRefusal}
use Rattle.map_codec.specs.declared.fault.RaiseFault.{RaiseFault}
use Rattle.map_codec.specs.declared.fault.RaiseFault.TheVariants as raising

pub text_refused : (image : Image) (version : ℕ) (fault : WriteFault) → IsWriteRefusal image version fault → IsTextRefusal image version (told_of_write fault)
text_refused image version writing.NoMemory is = is
text_refused image version fault is = λ none. (cc)

-- an image that is read is no fault but out of memory
no_fault : (image : Image) (fault : ImageFault) → fault ≢ reading.NoMemory → Fails fault (Ok image) → ⊥
no_fault image reading.NoMemory not fails = not refl
no_fault image fault not fails = cc

pub read_refused : (bytes : List ℕ) (fault : ImageFault) → ((image : Image) (version : ℕ) → IsImageText image version bytes → Fails fault (Ok image)) → IsLate fault bytes → IsReadRefusal bytes (told_of_read fault)
read_refused bytes reading.NoMemory only late = late refl
read_refused bytes fault only late = λ image version is. no_fault image fault (λ same. cc) (only image version is)

-- ---- what stands against raising

-- one change that is bad, and none
around_apart : (m : Manifest) (c : Changes) (place : ℕ) → IsBadAround m c (Some place) → IsBadAround m c None → ⊥
around_apart m c place bad (inl (i, change, nothing, at, above, least)) = cc
around_apart m c place (inl (i, change, found, at, above, least)) (inr (nothing, never)) = never i change at above
around_apart m c place (inr (found, _)) (inr (nothing, never)) = cc

else_apart : (found : Option ℕ) (Later : Option ℕ → Type 0) (place : ℕ) → (Later (Some place) → Later None → ⊥) → Else found Later (Some place) → Else found Later None → ⊥
else_apart (Some at) Later place apart bad good = cc
else_apart None Later place apart bad good = apart bad good

bad_apart : (m : Manifest) (c : Changes) (place : ℕ) → IsBadChange m c (Some place) → IsBadChange m c None → ⊥
bad_apart m c place = else_apart (bad_itself m c) (Else (bad_by_other m c) (IsBadAround m c)) place (else_apart (bad_by_other m c) (IsBadAround m c) place (around_apart m c place))

pub raise_refused : (m : Manifest) (image : Image) (fault : RaiseFault) → IsRaiseRefusal m image fault → IsServingRefusal m image (told_of_raise fault)
raise_refused m image raising.NoMemory is = is
raise_refused m image raising.OtherManifest is = λ may. is may.tree.name
raise_refused m image (raising.BadChange place) is = λ may. bad_apart m image.changes place is.1 may.tree.changes
raise_refused m image raising.NoParent is = λ may. let parents = may.entries.parents in let missing = is.1 in cc
raise_refused m image raising.NoLink is = λ may. is.1.1 may.entries.files
raise_refused m image raising.TwoNumbers is = λ may. may.entries.apart is.1.2
raise_refused m image raising.NumberTooHigh is = λ may. let next = may.entries.next_is in let above = is.1.3 in cc
