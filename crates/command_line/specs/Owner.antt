-- The owner that a word names, `UID:GID`. The numbers are those of `chown(2)`, where all bits of 32 name nobody.
use Rattle.std.specs.Prelude.{ℕ, nat_lt, List, Option, Some, None, option_and_then, if◌then◌else◌}
use Rattle.eden_base.specs.Text.{cut}
use Rattle.script_lines.specs.Number.{number_of}
use Rattle.command_line.specs.declared.owner.Owner.{Owner}

-- the number, if it names a user or a group
abbrev pub id_within : ℕ → Option ℕ
id_within number = if nat_lt number 4294967295 then Some number else None

-- the user or the group that decimal digits name
abbrev pub id_of : List ℕ → Option ℕ
id_of digits = option_and_then id_within (number_of digits)

-- an owner, if both its user and its group were named
abbrev pub owner_by : Option ℕ → Option ℕ → Option Owner
owner_by (Some user) (Some group) = Some (record { user = user; group = group })
owner_by (Some user) None = None
owner_by None group = None

-- the owner that the words before and behind a colon name
abbrev pub owner_in : Option (List ℕ × List ℕ) → Option Owner
owner_in (Some parts) = owner_by (id_of parts.0) (id_of parts.1)
owner_in None = None

-- the owner that a word names: its colon is the first one, byte 58
abbrev pub owner_of : List ℕ → Option Owner
owner_of word = owner_in (cut 58 word)
