-- The first member of a list that passes a test, and the list with it changed or without it.
use Rattle.std.specs.Prelude.{◌≡◌, ℕ, ◌<◌, Bool, List, [], ◌∷◌, length, remove, slice_index_or, slice_set, Option, Some, None, if◌then◌else◌}

-- the first member that passes the test
abbrev pub first_where : {X : Type 0} → (X → Bool) → List X → Option X
first_where p [] = None
first_where p (x ∷ xs) = if p x then Some x else first_where p xs

-- the list in which the first member that passes is changed
abbrev pub changed_where : {X : Type 0} → (X → Bool) → (X → X) → List X → List X
changed_where p change [] = []
changed_where p change (x ∷ xs) = if p x then change x ∷ xs else x ∷ changed_where p change xs

-- the list without the first member that passes
abbrev pub without_where : {X : Type 0} → (X → Bool) → List X → List X
without_where p [] = []
without_where p (x ∷ xs) = if p x then xs else x ∷ without_where p xs

-- `i` is the index of the first member that passes, to find, to change and to remove
pub record IsFirstPlace {X : Type 0} (p : X → Bool) (xs : List X) (i : ℕ) : Type 0 where
  pub bound : i < length xs
  pub value : (d : X) → first_where p xs ≡ Some (slice_index_or xs i d)
  pub change : (change : X → X) (d : X) → changed_where p change xs ≡ slice_set xs i (change (slice_index_or xs i d))
  pub removal : without_where p xs ≡ remove xs i
