-- Which blobs git is asked for, and by which threads.
use Rattle.std.specs.Prelude.{◌++◌, ◌∷◌, [], ℕ, Bool, true, false, List, length, nat_lt, Option, Some, None}
use Rattle.std.specs.List.{remove}
use Rattle.git_objects.specs.BlobCache.{same_id}
use Rattle.git_objects.specs.declared.duty.Duty.{Duty}
use Rattle.git_objects.specs.declared.duty.Duty.TheVariants.{Ahead, Large, Small}

-- whether this is the object
abbrev pub is_object : List ℕ → List ℕ → Bool
is_object object other = same_id other object

-- whether one more can be asked for: eight are noted at most
abbrev pub has_room : List (List ℕ) → Bool
has_room objects = nat_lt (length objects) 8

-- the objects without the one at a place
abbrev pub without : Option ℕ → List (List ℕ) → List (List ℕ)
without None objects = objects
without (Some place) objects = remove objects place

-- whether nobody waits yet for what a thread fetches
abbrev pub is_ahead : Duty → Bool
is_ahead Ahead = true
is_ahead Large = false
is_ahead Small = false
