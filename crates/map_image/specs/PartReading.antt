-- What holds of a reader that keeps the parts of an image, and of all that was read the last members alone. (This
-- project's own.)
use Rattle.std.specs.Prelude.{◌≡◌, ℕ, List, ◌++◌, Option, Some, None, Result, Ok, Err}
use Rattle.byte_codec.specs.Field.{AreBytes}
use Rattle.map_image.specs.declared.fault.ImageFault.{ImageFault}
use Rattle.map_image.specs.declared.fault.ImageFault.TheVariants.{ZeroUse}
use Rattle.map_image.specs.declared.image.Image.{Image}
use Rattle.map_image.specs.declared.reading.Reading.{Reading}
use Rattle.map_image.specs.ImageReading.{image_of_bytes, last_of}
use Rattle.map_image.specs.Feeding.{IsCut, IsFailed, resumed}

-- the fault that was met before all lists were read, if any. Whether entries are of use is seen only after that.
abbrev pub fault_before_whole : Result Image ImageFault → Option ImageFault
fault_before_whole (Ok image) = None
fault_before_whole (Err ZeroUse) = None
fault_before_whole (Err fault) = Some fault

-- the new lists have the last members of the old ones
pub record KeepsLast (old new : Reading) : Type 0 where
  pub stage : new.stage ≡ old.stage
  pub entries : last_of new.entries.items ≡ last_of old.entries.items
  pub made : last_of new.made.items ≡ last_of old.made.items
  pub links : last_of new.links.items ≡ last_of old.links.items

-- what holds of a reader of parts that met no fault: whatever follows, it will meet the fault of the whole
pub record IsPartReading (taken : List ℕ) (reading : Reading) (tail : List ℕ) : Type 0 where
  pub are : AreBytes taken
  pub goes_on : (more : List ℕ) →
      fault_before_whole (image_of_bytes (taken ++ more)) ≡ fault_before_whole (resumed reading (tail ++ more))
  pub cut : IsCut reading tail

abbrev pub IsPartReader : List ℕ → Reading → List ℕ → Option ImageFault → Type 0
IsPartReader taken reading tail None = IsPartReading taken reading tail
IsPartReader taken reading tail (Some fault) = IsFailed taken fault
