-- The names that a directory of a Linux file system may give: 1 to 255 bytes (NAME_MAX) without a slash and
-- without a NUL, and neither `.` nor `..`, which every directory gives itself (path_resolution(7)).
use Rattle.std.specs.Prelude.{◌≡◌, ℕ, Bool, false, ◌||◌, ◌&&◌, ◌==◌, nat_lt, List, [], ◌∷◌, length, Option, Some, None, if◌then◌else◌}
use Rattle.std.specs.List.{list_any}
use Rattle.eden_base.specs.declared.name.NameFault.{NameFault}
use Rattle.eden_base.specs.declared.name.NameFault.TheVariants.{Empty, TooLong, BadByte, Dots, NoMemory}

-- `byte` is a slash or a NUL
abbrev pub is_separator : ℕ → Bool
is_separator byte = byte == 47 || byte == 0

-- the bytes are `.` or `..`
abbrev pub is_dots : List ℕ → Bool
is_dots [] = false
is_dots (a ∷ []) = a == 46
is_dots (a ∷ b ∷ []) = a == 46 && b == 46
is_dots (a ∷ b ∷ c ∷ more) = false

-- why the bytes are no name: their first fault, or none if they are a name
abbrev pub name_fault : List ℕ → Option NameFault
name_fault bytes =
    if nat_lt (length bytes) 1 then Some Empty
    else if nat_lt 255 (length bytes) then Some TooLong
    else if list_any is_separator bytes then Some BadByte
    else if is_dots bytes then Some Dots
    else None

-- the bytes are a name
abbrev pub IsNameText : List ℕ → Type 0
IsNameText bytes = name_fault bytes ≡ None

-- this is why a parse of the bytes is refused: their first fault as a name, or NoMemory if they are a name
abbrev pub IsNameRefusal : List ℕ → NameFault → Type 0
IsNameRefusal bytes NoMemory = IsNameText bytes
IsNameRefusal bytes fault = name_fault bytes ≡ Some fault
