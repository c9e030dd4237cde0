-- The numbers of directories, as they are kept beside the names.
use Rattle.std.specs.Prelude.{◌≡◌, ℕ, ◌≤◌, Bool, true, false, Option, None, Some, nat_eq}
use Rattle.std.specs.Option.{option_map_or}
use Rattle.std.specs.HashMap as hash
use Rattle.directory_index.specs.NumberSet.{numbers_of}
use Rattle.directory_index.specs.Rising.{is_in, is_some_in}
use Rattle.directory_index.specs.declared.children.Children.{Children}
use Rattle.directory_index.specs.declared.number_set.NumberSet.{NumberSet}

-- whether the number is one of those that a directory has
abbrev pub is_among : ℕ → NumberSet → Bool
is_among number children = is_in number (numbers_of children)

-- whether the number is one of the directory's
abbrev pub is_child : Children → ℕ → ℕ → Bool
is_child children dir number =
    option_map_or (is_among number) (hash.get nat_eq children.directories dir) false

-- whether the directory has a number
abbrev pub has_children : Children → ℕ → Bool
has_children children dir =
    option_map_or (λ (c : NumberSet). is_some_in (numbers_of c)) (hash.get nat_eq children.directories dir) false

-- the least number of the directory from `least` on, or none
abbrev pub IsFirstChild : Children → ℕ → ℕ → Option ℕ → Type 0
IsFirstChild children dir least (Some number) =
    (is_child children dir number ≡ true) × (least ≤ number)
    × ((other : ℕ) → is_child children dir other ≡ true → least ≤ other → number ≤ other)
IsFirstChild children dir least None =
    (other : ℕ) → least ≤ other → is_child children dir other ≡ false
