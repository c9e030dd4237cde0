-- Blobs that are asked for before somebody reads them.
use Rattle.std.specs.Prelude.{◌++◌, ◌∷◌, [], ℕ, Bool, true, false, List, drop}
use Rattle.git_objects.specs.BlobCache.{same_id}
use Rattle.git_objects.specs.declared.sought.Sought.{Sought}

-- whether the blob is this object
abbrev pub is_of : List ℕ → Sought → Bool
is_of object sought = same_id sought.object object

-- the blobs that are asked for behind one more, by whether it is asked for
abbrev pub joined : Bool → List Sought → Sought → List Sought
joined true asks sought = asks ++ sought ∷ []
joined false asks sought = asks

-- those behind the first one
abbrev pub rest_of : List Sought → List Sought
rest_of = drop 1
