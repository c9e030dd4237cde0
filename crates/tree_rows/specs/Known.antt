-- Where the numbers of an index are known to stand.
use Rattle.std.specs.Prelude.{ℕ, List, Option, nat_eq}
use Rattle.std.specs.HashMap as hash
use Rattle.std.specs.Option.{option_map}
use Rattle.directory_index.specs.Index.{IsIndexOf}
use Rattle.directory_index.specs.Standing.{AreKnown, Standing}
use Rattle.directory_index.specs.declared.directory_index.DirectoryIndex.{DirectoryIndex}
use Rattle.tree_rows.specs.declared.known.KnownPlace.{KnownPlace}
use Rattle.tree_rows.specs.declared.known.KnownPlaces.{KnownPlaces}

-- the directory and the name of a known place
abbrev pub dir_and_name : KnownPlace → ℕ × List ℕ
dir_and_name place = (place.dir, place.name.items)

-- where a number is known to stand
abbrev pub place_in : KnownPlaces → ℕ → Option (ℕ × List ℕ)
place_in known number = option_map dir_and_name (hash.get nat_eq known.places number)

-- the places of all numbers of an index are known
abbrev pub IsKnown : KnownPlaces → DirectoryIndex → Type 0
IsKnown known index = (at : Standing) × IsIndexOf at index × AreKnown at (place_in known)
