-- Which images have no text that may be written, and the room that a text takes.
use Rattle.std.specs.Prelude.{◌≡◌, ◌<◌, ◌≤◌, ℕ, ◌+◌, not, nat_lt, Bool, length, Option, Some, None, if◌then◌else◌}
use Rattle.std.specs.List.{list_any}
use Rattle.entry_table.specs.declared.kept.Kept.{Kept}
use Rattle.map_image.specs.declared.fault.WriteFault.{WriteFault}
use Rattle.map_image.specs.declared.fault.WriteFault.TheVariants.{NoSuchVersion, NamedOtherwise, CountTooLarge, TooLong, NoMemory}
use Rattle.map_image.specs.declared.image.Image.{Image}
use Rattle.map_image.specs.ImageText.{image_text}
use Rattle.map_image.specs.Versions.{form_of, is_named_so, length_limit}
use Rattle.map_image.specs.declared.version.VersionForm.{VersionForm}

-- ---- refusals

-- the entry has a count above the greatest that is written
abbrev pub is_too_large : ℕ → Kept → Bool
is_too_large greatest kept = nat_lt greatest kept.count

-- why an image is not written in this form, if there is a cause other than memory
abbrev pub form_fault : Image → ℕ → VersionForm → Option WriteFault
form_fault image version form =
    if not (is_named_so image.name.by form.named_by) then Some NamedOtherwise
    else if list_any (is_too_large form.greatest_count) image.entries then Some CountTooLarge
    else if nat_lt form.longest (length (image_text form.count_width version image)) then Some TooLong
    else None

-- why an image is not written in a version, by the version's form, if there is a cause other than memory
abbrev pub write_fault : Image → ℕ → Option VersionForm → Option WriteFault
write_fault image version None = Some NoSuchVersion
write_fault image version (Some form) = form_fault image version form

abbrev pub refusal : Image → ℕ → Option WriteFault
refusal image version = write_fault image version (form_of version)

-- writing is refused with this fault: the first one, or NoMemory if there is no other
abbrev pub IsWriteRefusal : Image → ℕ → WriteFault → Type 0
IsWriteRefusal image version NoMemory = refusal image version ≡ None
IsWriteRefusal image version fault = refusal image version ≡ Some fault

-- ---- room that is counted before anything is written

-- this is what is left of a room after this count of bytes; None if they do not fit
abbrev pub Leaves : ℕ → ℕ → Option ℕ → Type 0
Leaves room used None = room < used
Leaves room used (Some left) = left + used ≡ room

-- this is the length, if it is at most `longest`, else None
abbrev pub IsLength : ℕ → ℕ → Option ℕ → Type 0
IsLength longest len None = longest < len
IsLength longest len (Some found) = (found ≡ len) × (found ≤ longest)

-- each of the three lists can be counted
pub record AreFew (image : Image) : Type 0 where
  pub entries : length image.entries < length_limit
  pub made : length image.changes.made < length_limit
  pub links : length image.changes.links < length_limit
