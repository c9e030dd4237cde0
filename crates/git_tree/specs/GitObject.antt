-- The names of git's objects. (gitglossary(7): an object name is the SHA-1 of the object, written as forty hexadecimal
-- digits.)
use Rattle.std.specs.Prelude.{ℕ, ◌-◌, ◌&&◌, ◌||◌, Bool, nat_le, nat_lt, List, Option, None, if◌then◌else◌}
use Rattle.std.specs.List.{list_all, slice_get}
use Rattle.std.specs.Option.{option_map}
use Rattle.std.specs.Result.{result_ok}
use Rattle.hex.specs.Hex.{decode_sized}
use Rattle.eden_base.specs.declared.number.FileId.{FileId}
use Rattle.git_tree.specs.declared.object_id.ObjectId.{ObjectId}

-- the byte is a hexadecimal digit in lower case, as git prints them
abbrev pub is_lower_digit : ℕ → Bool
is_lower_digit d = nat_le 48 d && nat_le d 57 || nat_le 97 d && nat_le d 102

-- the object with these twenty bytes as its name
abbrev pub object_named : List ℕ → ObjectId
object_named bytes = record { 0 = bytes }

-- the object that forty digits name, or none for any other text
abbrev pub object_of : List ℕ → Option ObjectId
object_of digits =
    if list_all is_lower_digit digits then option_map object_named (result_ok (decode_sized digits 20)) else None

-- the object of a file, where the first of these is that of file 2; the root has none
abbrev pub object_at : List ObjectId → FileId → Option ObjectId
object_at objects file = if nat_lt file.0 2 then None else slice_get objects (file.0 - 2)
