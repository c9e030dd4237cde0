-- What stands where. A place is a directory's number and a name in it, and at most one number stands at each. (A file has
-- one link at most in this project; hard links are refused.)
use Rattle.std.specs.Prelude.{◌≡◌, ◌≤◌, ℕ, ◌==◌, ◌&&◌, Bool, false, List, Option, None, Some, nat_eq, if◌then◌else◌}
use Rattle.std.proofs.Common.{Bor}
use Rattle.std.specs.Option.{option_map, option_map_or}
use Rattle.std.specs.Cmp.Lexicographic.{pointwise}

-- what stands under each name of each directory: a finite map from places to numbers, as a function
abbrev pub Standing : Type 0
Standing = ℕ → List ℕ → Option ℕ

-- nothing stands anywhere
abbrev pub nothing : Standing
nothing dir name = None

-- whether the place (d, q) is (dir, name)
abbrev pub is_place : ℕ → List ℕ → ℕ → List ℕ → Bool
is_place d q dir name = d == dir && pointwise nat_eq q name

-- what stands, with `number` under `name` in `dir`
abbrev pub inserted : Standing → ℕ → List ℕ → ℕ → Standing
inserted at dir name number d q = if is_place d q dir name then Some number else at d q

-- what stands, with nothing under `name` in `dir`
abbrev pub removed : Standing → ℕ → List ℕ → Standing
removed at dir name d q = if is_place d q dir name then None else at d q

-- the number stands in the directory, under some name
abbrev pub StandsIn : Standing → ℕ → ℕ → Type 0
StandsIn at dir number = (name : List ℕ) × (at dir name ≡ Some number)

-- the number stands in no directory
abbrev pub StandsNowhere : Standing → ℕ → Type 0
StandsNowhere at number = (dir : ℕ) (name : List ℕ) → at dir name ≡ Some number → ⊥

-- no number stands at two places
abbrev pub AreApart : Standing → Type 0
AreApart at = (dir other_dir : ℕ) (name other_name : List ℕ) (number : ℕ) →
    at dir name ≡ Some number → at other_dir other_name ≡ Some number → (dir ≡ other_dir) × (name ≡ other_name)

-- whether a number, whose place this is, stands under `name` in `dir`
abbrev pub is_at : Option (ℕ × List ℕ) → ℕ → List ℕ → Bool
is_at place dir name = option_map_or (λ (p : ℕ × List ℕ). is_place p.0 p.1 dir name) place false

-- the number that was found, if there is one and it stands under `name` in `dir`
abbrev pub if_at : (ℕ → Option (ℕ × List ℕ)) → ℕ → List ℕ → Option ℕ → Option ℕ
if_at place dir name (Some number) = if is_at (place number) dir name then Some number else None
if_at place dir name None = None

-- the name at a place, if there is a place
abbrev pub IsNameOf : Option (ℕ × List ℕ) → Option (Bor (List ℕ)) → Type 0
IsNameOf place found = option_map (λ (name : Bor (List ℕ)). name.now) found ≡ option_map (λ (p : ℕ × List ℕ). p.1) place

-- each number that stands somewhere is known to stand there
abbrev pub AreKnown : Standing → (ℕ → Option (ℕ × List ℕ)) → Type 0
AreKnown at place = (dir : ℕ) (name : List ℕ) (number : ℕ) → at dir name ≡ Some number → place number ≡ Some (dir, name)

-- the first number of a directory from a number on: the least one that stands there, or none
abbrev pub IsFirstFrom : Standing → ℕ → ℕ → Option ℕ → Type 0
IsFirstFrom at dir least (Some number) =
    StandsIn at dir number × (least ≤ number) × ((other : ℕ) → StandsIn at dir other → least ≤ other → number ≤ other)
IsFirstFrom at dir least None = (other : ℕ) → StandsIn at dir other → least ≤ other → ⊥
