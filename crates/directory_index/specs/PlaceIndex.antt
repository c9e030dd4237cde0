-- What an index of places is an index of.
use Rattle.std.specs.Prelude.{◌≡◌, ℕ, ◌==◌, ◌&&◌, Bool, false, not, List, Option, None, Some, nat_le, is_some, if◌then◌else◌}
use Rattle.std.specs.Option.{option_map_or}
use Rattle.directory_index.specs.Keys.{key_of}
use Rattle.directory_index.specs.Names.{at_key, is_taken, written, AreNamesOf}
use Rattle.directory_index.specs.Standing.{inserted, is_place, AreApart, Standing, StandsNowhere}
use Rattle.directory_index.specs.declared.link.Link.{Link}
use Rattle.directory_index.specs.declared.names.Names.{Names}
use Rattle.directory_index.specs.declared.place_index.PlaceIndex.{PlaceIndex}

-- whether the link that was inserted last is of this number
abbrev pub is_latest : Option Link → ℕ → Bool
is_latest latest number = option_map_or (λ (link : Link). link.number == number) latest false

-- whether the link that was inserted last stands in the directory
abbrev pub is_latest_in : Option Link → ℕ → Bool
is_latest_in latest dir = option_map_or (λ (link : Link). link.dir == dir) latest false

-- the number of the link that was inserted last, if it has this key
abbrev pub latest_at : Option Link → ℕ → Option ℕ
latest_at (Some link) key = if link.key == key then Some link.number else None
latest_at None key = None

-- the number of the link that was inserted last, if it stands in the directory and is at least `least`
abbrev pub latest_from : Option Link → ℕ → ℕ → Option ℕ
latest_from (Some link) dir least = if link.dir == dir && nat_le least link.number then Some link.number else None
latest_from None dir least = None

-- `at` is what the maps have, and the link that was inserted last, if there is one
abbrev pub AddsLatest : Standing → Option Link → Standing → Type 0
AddsLatest below None at = (dir : ℕ) (name : List ℕ) → at dir name ≡ below dir name
AddsLatest below (Some link) at =
    (name : List ℕ) × (key_of link.dir name ≡ link.key) × (below link.dir name ≡ None) × StandsNowhere below link.number
    × ((d : ℕ) (q : List ℕ) → at d q ≡ inserted below link.dir name link.number d q)

-- The index is one of this: of these numbers at these places, no two of which are one number's. What the maps have of it
-- is `below`.
pub record ArePlacesOf (at below : Standing) (index : PlaceIndex) : Type 0 where
  pub names : AreNamesOf below index.names
  pub latest : AddsLatest below index.latest at
  pub apart : AreApart at

-- whether no link stands beside the maps, so that a number can be inserted without taking memory
abbrev pub has_place : PlaceIndex → Bool
has_place index = not (is_some index.latest)

-- `new` has the number of a link beside what `old` has, if it was added: at the key, or under the name if the key was
-- taken
pub record IsAdded (old new : Names) (is_added : Bool) (link : Link) (name : List ℕ) : Type 0 where
  pub keys : (k : ℕ) → at_key new.keys k
      ≡ (if is_added && (k == link.key && not (is_taken old.keys link.key)) then Some link.number
      else at_key old.keys k)
  pub others : (d : ℕ) (q : List ℕ) → written new.others d q
      ≡ (if is_added && (is_place d q link.dir name && is_taken old.keys link.key) then Some link.number
      else written old.others d q)
