-- Whether bytes are a name.
use Rattle.std.specs.Prelude.{ℕ, Bool, List, is_none}
use Rattle.eden_base.specs.Name.{name_fault}

-- the bytes are a name
abbrev pub is_name : List ℕ → Bool
is_name bytes = is_none (name_fault bytes)
