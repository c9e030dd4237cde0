-- What the maps of an index have for a place.
use Rattle.std.specs.Prelude.{◌≡◌, ℕ, ◌⊎◌, Bool, List, Option, Some, is_some, nat_eq}
use Rattle.std.specs.Option.{option_and_then}
use Rattle.std.specs.Ordering.{nat_cmp}
use Rattle.std.specs.Cmp.Lexicographic.{slice_cmp}
use Rattle.std.specs.BTreeMap.{get_by}
use Rattle.std.specs.FinMap.{get, FinMap}
use Rattle.std.specs.HashMap.{HashMap}
use Rattle.std.specs.HashMap as hash
use Rattle.std.specs.declared.alloc.Global.{Global}
use Rattle.std.specs.declared.vec.Vec.{Vec}
use Rattle.key_map.specs.Cells.{is_number}
use Rattle.directory_index.specs.Keys.{key_of}
use Rattle.directory_index.specs.Standing.{Standing}
use Rattle.directory_index.specs.declared.names.Names.{Names}
use Rattle.directory_index.specs.declared.names.Others.{Others}

-- numbers by keys
abbrev pub Keys : Type 0
Keys = FinMap nat_cmp ℕ

-- the number at a key, if there is one
abbrev pub at_key : Keys → ℕ → Option ℕ
at_key keys key = get keys key

-- whether the number is at the key
abbrev pub is_at_key : Keys → ℕ → ℕ → Bool
is_at_key keys key number = is_number number (at_key keys key)

-- whether a number is at the key
abbrev pub is_taken : Keys → ℕ → Bool
is_taken keys key = is_some (at_key keys key)

-- the number that a directory has for the name `q`, if there is one
abbrev pub in_directory : List ℕ → Others → Option ℕ
in_directory q directory = get_by (λ (k : Vec ℕ Global). slice_cmp nat_cmp q k.items) directory.numbers

-- the number that the directory `dir` has for the name `q`, if there is one
abbrev pub written : {S : Type 0} → HashMap ℕ Others S → ℕ → List ℕ → Option ℕ
written directories dir q = option_and_then (in_directory q) (hash.get nat_eq directories dir)

-- the maps have the number for a place: at the place's key, or under its name
abbrev pub IsNamed : Names → ℕ → List ℕ → ℕ → Type 0
IsNamed names dir name number =
    (at_key names.keys (key_of dir name) ≡ Some number) ⊎ (written names.others dir name ≡ Some number)

-- The maps have the number of each place, and nothing else. What is at a key stands at a place with this key, what is
-- under a name stands there, and no number is in both for one place.
pub record AreNamesOf (at : Standing) (names : Names) : Type 0 where
  pub each : (dir : ℕ) (name : List ℕ) (number : ℕ) → at dir name ≡ Some number → IsNamed names dir name number
  pub keyed : (key number : ℕ) → at_key names.keys key ≡ Some number →
      (dir : ℕ) × (name : List ℕ) × (at dir name ≡ Some number) × (key_of dir name ≡ key)
  pub others : (dir : ℕ) (name : List ℕ) (number : ℕ) → written names.others dir name ≡ Some number →
      at dir name ≡ Some number
  pub once : (dir : ℕ) (name : List ℕ) (number : ℕ) → written names.others dir name ≡ Some number →
      at_key names.keys (key_of dir name) ≡ Some number → ⊥
